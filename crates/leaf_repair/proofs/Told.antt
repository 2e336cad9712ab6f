-- What is told of leaves, one after another.
use Rattle.std.proofs.Common.{◌≡◌, ◌↔◌, ℕ, zero, suc, Bool, List, [], ◌∷◌, ◌++◌, length, Some, sym, subst}
use Rattle.std.specs.Prelude.{IsTrue, IfSome, slice_get}

-- one more is told of
pub told_more : {X : Type 0} (Q : X → Type 0) (held : List Bool) (xs : List X) (b : Bool) (x : X) → slice_get xs (length held) ≡ Some x → IsTrue b ↔ Q x
    → ((k : ℕ) → IfSome (slice_get held k) (λ h. IfSome (slice_get xs k) (λ y. IsTrue h ↔ Q y))) → (k : ℕ) → IfSome (slice_get (held ++ b ∷ []) k) (λ h. IfSome (slice_get xs k) (λ y. IsTrue h ↔ Q y))
told_more Q [] xs b x here is told zero = subst (λ o. IfSome o (λ y. IsTrue b ↔ Q y)) (sym here) is
told_more Q [] xs b x here is told (suc k) = tt
told_more Q (h ∷ hs) [] b x here is told k = cc
told_more Q (h ∷ hs) (y ∷ ys) b x here is told zero = told zero
told_more Q (h ∷ hs) (y ∷ ys) b x here is told (suc k) = told_more Q hs ys b x here is (λ j. told (suc j)) k
