-- The places of a list whose keys rise: a key has one place, and a look-up finds it.
use Rattle.std.proofs.Common.{◌≡◌, ℕ, ◌<◌, refl, sym, ◌∙◌, inl, inr, arith, Bool, List, map, length, get_or, None, Some}
use Rattle.std.specs.Prelude.{find, Contains, ◌==◌}
use Rattle.std.specs.List.Sorted.{IsStrictlyIncreasing}
use Rattle.std.proofs.lemmas.Bool.{cases_order, ne_eqb, eq-eqb}
use Rattle.std.proofs.lemmas.List.{length-map, get_or-map}
use Rattle.std.proofs.lemmas.List.Kept.{AllPairs-from_increasing}
use Rattle.std.proofs.lemmas.List.Recursion.{found_at}

module _ {X : Type 0} (key : X → ℕ) (xs : List X) (d : X) where
  -- the place of a key
  pub place_of : (s : ℕ) → Contains (map key xs) s → (i : ℕ) × (i < length xs) × (key (get_or xs i d) ≡ s)
  place_of s c = let b : c.0 < length xs = rw length-map at c.1 in (c.0, b, sym (get_or-map key xs c.0 d s b) ∙ c.2)

  module _ (rising : IsStrictlyIncreasing (map key xs)) where
    keys_rise : (i j : ℕ) → i < j → j < length xs → key (get_or xs i d) < key (get_or xs j d)
    keys_rise i j before b =
        let h : get_or (map key xs) i (key d) < get_or (map key xs) j (key d) = AllPairs-from_increasing (map key xs) rising i j (key d) before (rw length-map b) in
        omega (arith, h, get_or-map key xs i d (key d) (omega arith), get_or-map key xs j d (key d) b)

    pub one_place : (i j : ℕ) → i < length xs → j < length xs → key (get_or xs i d) ≡ key (get_or xs j d) → i ≡ j
    one_place i j b c e =
        elim (cases_order i j) [
          | inl same ↦ same
          | inr other ↦ elim other [
            | inl before ↦ absurd (omega (arith, keys_rise i j before c))
            | inr after ↦ absurd (omega (arith, keys_rise j i after b))
          ]
        ]

    pub found_by_key : (i : ℕ) → i < length xs → find (λ x. key x == key (get_or xs i d)) xs ≡ Some (get_or xs i d)
    found_by_key i b =
        let p : X → Bool = λ x. key x == key (get_or xs i d) in
        found_at (λ ys. find p ys) p Some None refl (λ _ _. refl) xs i d b
        (λ k before. ne_eqb (key (get_or xs k d)) (key (get_or xs i d)) (λ e. omega (arith, keys_rise k i before b)))
        (eq-eqb (key (get_or xs i d)) (key (get_or xs i d)) refl)
