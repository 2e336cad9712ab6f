-- What holds of a list of which some elements were picked, or of their values.
use Rattle.std.proofs.Common.{◌≡◌, ℕ, ◌<◌, Bool, true, false, cond, List, [], ◌∷◌, map, length, subst, ◌∙◌, zero-add, arith}
use Rattle.std.specs.Prelude.{All, filter}
use Rattle.std.specs.List.{range_with_len}
use Rattle.std.proofs.lemmas.Bool.{false≢true}
use Rattle.std.proofs.lemmas.List.Elements.{All-nil, All-cons, All-head, All-tail}
use Rattle.std.proofs.lemmas.List.FromFn.{get_or-range_with_len, length-range_with_len}

module _ {X : Type 0} (P : X → Type 0) where
  first_picked : (b : Bool) (x : X) (ys : List X) → All P (cond b (x ∷ ys) ys) → (b ≡ true → P x) × All P ys
  first_picked true x ys h = (λ _. All-head P x ys h, All-tail P x ys h)
  first_picked false x ys h = (λ e. absurd (false≢true e), h)

  pub all_picked : (p : X → Bool) (xs : List X) → All P (filter p xs) → All (λ x. p x ≡ true → P x) xs
  all_picked p [] h = All-nil (λ x. p x ≡ true → P x)
  all_picked p (x ∷ xs) h =
      let parts = first_picked (p x) x (filter p xs) h in
      All-cons (λ y. p y ≡ true → P y) x xs parts.0 (all_picked p xs parts.1)

  pub all_valued : {Y : Type 0} (f : Y → X) (ys : List Y) → All P (map f ys) → All (λ y. P (f y)) ys
  all_valued f [] h = All-nil (λ y. P (f y))
  all_valued f (y ∷ ys) h = All-cons (λ z. P (f z)) y ys (All-head P (f y) (map f ys) h) (all_valued f ys (All-tail P (f y) (map f ys) h))

-- what holds of all places holds of each
pub all_places : (P : ℕ → Type 0) (n i : ℕ) → All P (range_with_len 0 n) → i < n → P i
all_places P n i h b =
    let inside : i < length (range_with_len 0 n) = omega (arith, length-range_with_len 0 n) in
    subst P (get_or-range_with_len 0 n i i b ∙ zero-add i) (h i i inside)
