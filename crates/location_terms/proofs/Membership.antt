-- Whether a list has an element.
use Rattle.std.proofs.Common.{◌≡◌, ℕ, ap, ◌∙◌, inl, inr, ◌⊎◌, subst, Bool, true, List}
use Rattle.std.specs.Prelude.{Contains, Any, ◌==◌, ◌&&◌}
use Rattle.std.specs.List.{list_any}
use Rattle.std.proofs.lemmas.Bool.{eqb-true, eq-eqb, and_parts, and_from, cases_Bool, both_ways}
use Rattle.std.proofs.lemmas.List.Folds.{Any-from_list_any, list_any_at}

-- a list has an element or has it not, where a test tells whether two elements are one
has_or_lacks_by : {X : Type 0} (same : X → X → Bool) → ((x y : X) → same x y ≡ true → x ≡ y) → ((x y : X) → x ≡ y → same x y ≡ true) → (xs : List X) (x : X) → Contains xs x ⊎ (Contains xs x → ⊥)
has_or_lacks_by {X} same sound complete xs x =
    elim (cases_Bool (list_any (λ y. same y x) xs)) [
      | inl t ↦ let found : Any (λ y. same y x ≡ true) xs = Any-from_list_any (λ y. same y x) xs t in
          inl (subst (λ y. Contains xs y) (sound found.1 x found.4) (found.0, found.2, found.3))
      | inr f ↦ inr (λ c. both_ways _ f (list_any_at (λ y. same y x) xs c.0 x c.1 (complete _ x c.2)))
    ]

-- a list has a number or has it not
pub has_or_lacks : (xs : List ℕ) (x : ℕ) → Contains xs x ⊎ (Contains xs x → ⊥)
has_or_lacks = has_or_lacks_by (λ x y. x == y) eqb-true eq-eqb

-- whether two pairs of numbers are one
same_pair : ℕ × ℕ → ℕ × ℕ → Bool
same_pair a b = (a.0 == b.0) && (a.1 == b.1)

same_pair_sound : (a b : ℕ × ℕ) → same_pair a b ≡ true → a ≡ b
unfolding same_pair
same_pair_sound a b t =
    let parts : ((a.0 == b.0) ≡ true) × ((a.1 == b.1) ≡ true) = and_parts _ _ t in
    ap (λ n. (n, a.1)) (eqb-true _ _ parts.0) ∙ ap (λ n. (b.0, n)) (eqb-true _ _ parts.1)

same_pair_complete : (a b : ℕ × ℕ) → a ≡ b → same_pair a b ≡ true
unfolding same_pair
same_pair_complete a b e = and_from _ _ (eq-eqb _ _ (ap (λ (v : ℕ × ℕ). v.0) e)) (eq-eqb _ _ (ap (λ (v : ℕ × ℕ). v.1) e))

-- a list has a pair of numbers or has it not
pub has_or_lacks_pair : (xs : List (ℕ × ℕ)) (x : ℕ × ℕ) → Contains xs x ⊎ (Contains xs x → ⊥)
has_or_lacks_pair = has_or_lacks_by same_pair same_pair_sound same_pair_complete
