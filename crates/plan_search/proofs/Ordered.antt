-- Two lists of the same elements, each in one strict order, are one list.
use Rattle.std.proofs.Common.{◌≡◌, zero, suc, List, [], ◌∷◌, refl, sym, ap, subst, inl, inr, ◌⊎◌, ◌∙◌, arith}
use Rattle.std.specs.Prelude.{Contains, AllPairs}
use Rattle.plan_search.proofs.Among.{Contains-first, Contains-later}

module _ {X : Type 0} (R : X → X → Type 0) (one_way : (x y : X) → R x y → R y x → ⊥) where
  pub tail_pairs : (x : X) (xs : List X) → AllPairs R (x ∷ xs) → AllPairs R xs
  tail_pairs x xs pairs i k d before b = pairs (suc i) (suc k) d (omega arith) (omega (arith, b))

  pub head_before : (x : X) (xs : List X) → AllPairs R (x ∷ xs) → (y : X) → Contains xs y → R x y
  head_before x xs pairs y c = subst (R x) c.2 (pairs 0 (suc c.0) y (omega arith) (omega (arith, c.1)))

  first_or_later : (x : X) (xs : List X) (y : X) → Contains (x ∷ xs) y → (x ≡ y) ⊎ Contains xs y
  first_or_later x xs y (zero, b, e) = inl e
  first_or_later x xs y (suc k, b, e) = inr (k, omega (arith, b), e)

  -- what the first list has behind its head, the second has behind its own
  later_too : (x : X) (xs ys : List X) → AllPairs R (x ∷ xs) → ((z : X) → Contains (x ∷ xs) z → Contains (x ∷ ys) z) → (z : X) → Contains xs z → Contains ys z
  later_too x xs ys pairs has z c =
      elim (first_or_later x ys z (has z (Contains-later xs x z c))) [
        | inl same ↦ let before : R x z = head_before x xs pairs z c in absurd (one_way x z before (subst (λ w. R w x) same (subst (R x) (sym same) before)))
        | inr later ↦ later
      ]

  pub same_order : (xs ys : List X) → AllPairs R xs → AllPairs R ys → ((z : X) → Contains xs z → Contains ys z) → ((z : X) → Contains ys z → Contains xs z) → xs ≡ ys
  same_order [] [] p q f g = refl
  same_order [] (y ∷ ys) p q f g = let none = g y (Contains-first ys y) in absurd (omega (arith, none.1))
  same_order (x ∷ xs) [] p q f g = let none = f x (Contains-first xs x) in absurd (omega (arith, none.1))
  same_order (x ∷ xs) (y ∷ ys) p q f g =
      let same : x ≡ y = heads (first_or_later y ys x (f x (Contains-first xs x))) (first_or_later x xs y (g y (Contains-first ys y))) in
      let q' : AllPairs R (x ∷ ys) = subst (λ w. AllPairs R (w ∷ ys)) (sym same) q in
      let f' : (z : X) → Contains (x ∷ xs) z → Contains (x ∷ ys) z = λ z c. subst (λ w. Contains (w ∷ ys) z) (sym same) (f z c) in
      let g' : (z : X) → Contains (x ∷ ys) z → Contains (x ∷ xs) z = λ z c. g z (subst (λ w. Contains (w ∷ ys) z) same c) in
      ap (λ w. w ∷ xs) same ∙ ap (λ zs. y ∷ zs) (same_order xs ys (tail_pairs x xs p) (tail_pairs x ys q') (later_too x xs ys p f') (later_too x ys xs q' g'))
    where
      heads : (y ≡ x) ⊎ Contains ys x → (x ≡ y) ⊎ Contains xs y → x ≡ y
      heads (inl e) other = sym e
      heads (inr later) (inl e) = e
      heads (inr later) (inr there) = absurd (one_way y x (head_before y ys q x later) (head_before x xs p y there))
