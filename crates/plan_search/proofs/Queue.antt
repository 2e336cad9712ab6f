-- The customers' turns: each has one.
use Rattle.std.proofs.Common.{◌≡◌, ℕ, ◌<◌, Bool, true, false, cond, List, [], ◌∷◌, ◌++◌, length, get_or, subst, arith}
use Rattle.std.specs.Prelude.{◌==◌, nat_lt}
use Rattle.std.specs.List.{fold, IsDistinct}
use Rattle.std.specs.List.Sorted.{IsPermutation}
use Rattle.std.proofs.lemmas.Bool.{ne_eqb, eqb-false}
use Rattle.std.proofs.lemmas.List.{append-nil}
use Rattle.std.proofs.lemmas.List.FromFn.{get_or-range_with_len, length-range_with_len}
use Rattle.std.proofs.lemmas.List.Sorted.{IsPermutation-refl, IsPermutation-trans, IsPermutation-cons, IsPermutation-middle, IsPermutation-append_left}
use Rattle.std.proofs.lemmas.Map.Keys.{IsDistinct-from_apart, IsDistinct-IsPermutation, apart_from_distinct}
use Rattle.location_terms.specs.Instance.{Instance, customer_at}
use Rattle.dual_ascent.specs.Levels.{customer_places}
use Rattle.plan_search.specs.Packed.{queued, by_falling_demand}

module _ (I : Instance) where
  pub queued_moves : (ks : List ℕ) (j : ℕ) → IsPermutation (j ∷ ks) (queued I ks j)
  queued_moves [] j = IsPermutation-refl (j ∷ [])
  queued_moves (k ∷ ks) j = by (nat_lt (customer_at I k).demand (customer_at I j).demand) (queued_moves ks j)
    where
      by : (b : Bool) → IsPermutation (j ∷ ks) (queued I ks j) → IsPermutation (j ∷ k ∷ ks) (cond b (j ∷ k ∷ ks) (k ∷ queued I ks j))
      by true rest = IsPermutation-refl (j ∷ k ∷ ks)
      by false rest = IsPermutation-trans (j ∷ k ∷ ks) (k ∷ j ∷ ks) (k ∷ queued I ks j) (IsPermutation-middle (j ∷ []) k ks) (IsPermutation-cons k (j ∷ ks) (queued I ks j) rest)

  queue_moves : (ks js : List ℕ) → IsPermutation (ks ++ js) (fold (queued I) ks js)
  queue_moves ks [] = subst (λ xs. IsPermutation (ks ++ []) xs) (append-nil ks) (IsPermutation-refl (ks ++ []))
  queue_moves ks (j ∷ js) =
      IsPermutation-trans (ks ++ j ∷ js) (j ∷ (ks ++ js)) (fold (queued I) (queued I ks j) js) (IsPermutation-middle ks j js)
      (IsPermutation-trans (j ∷ (ks ++ js)) (queued I ks j ++ js) (fold (queued I) (queued I ks j) js) (IsPermutation-append_left js (j ∷ ks) (queued I ks j) (queued_moves ks j)) (queue_moves (queued I ks j) js))

  -- the turns are the customers' places in another order
  pub turns_move : IsPermutation (customer_places I) (by_falling_demand I)
  turns_move = queue_moves [] (customer_places I)

  places_apart : IsDistinct (λ (x y : ℕ). x == y) (customer_places I)
  places_apart =
      IsDistinct-from_apart (λ x y. x == y) (customer_places I)
      (λ i j d before b.
      let inside : j < length I.customers = omega (arith, b, length-range_with_len 0 (length I.customers)) in
      ne_eqb _ _ (λ same. omega (arith, before, get_or-range_with_len 0 (length I.customers) i d (omega arith), get_or-range_with_len 0 (length I.customers) j d inside)))

  flips : (x y : ℕ) → (x == y) ≡ (y == x)
  flips x y = grind arith

  -- a customer stands once among the places in any order
  pub moved_apart : (js : List ℕ) → IsPermutation (customer_places I) js → (i j : ℕ) (d : ℕ) → i < j → j < length js → get_or js i d ≡ get_or js j d → ⊥
  moved_apart js moves i j d before b =
      eqb-false _ _ (apart_from_distinct (λ x y. x == y) js i j d (IsDistinct-IsPermutation (λ x y. x == y) flips (customer_places I) js moves places_apart) before b)

  -- a customer has one turn
  pub turns_apart : (i j : ℕ) (d : ℕ) → i < j → j < length (by_falling_demand I) → get_or (by_falling_demand I) i d ≡ get_or (by_falling_demand I) j d → ⊥
  turns_apart i j d before b = moved_apart (by_falling_demand I) turns_move i j d before b
