-- What a site collects from whole customers, where the cost of one lane moves: no set has its customer twice.
use Rattle.std.proofs.Common.{◌≡◌, ◌≢◌, ℕ, ◌*◌, ◌+◌, ◌<◌, ◌≤◌, zero, suc, refl, sym, ◌∙◌, inl, inr, arith, Bool, true, false, cond, List, [], ◌∷◌, ◌++◌, map, length, ℤ, pos, ◌+ℤ◌, ◌-ℤ◌}
use Rattle.std.specs.Prelude.{fold, filter}
use Rattle.std.specs.List.{range_with_len, AllByRecursion}
use Rattle.std.specs.Int.{int_max}
use Rattle.std.proofs.lemmas.Int.{ints}
use Rattle.std.proofs.lemmas.Bool.{cases_eq}
use Rattle.location_terms.specs.Instance.{Instance, Customer, Lanes, IsValid, site_at, customer_at}
use Rattle.location_terms.specs.Box.{Path, is_allowed, holds_demand}
use Rattle.location_terms.specs.Bound.{Duals, v_at}
use Rattle.location_terms.specs.Knapsack.{sets_of, demand_of_set, worth_of, best_set}
use Rattle.location_terms.proofs.Rising.{one_place}
use Rattle.range_scan.proofs.Bent.{IsBent, bent_same, bent_flat, bent_plus, bent_surplus, bent_greatest}
use Rattle.range_scan.proofs.Alike.{with_costs, DifferInCosts, no_customer, cost_at, allowed_same}

module _ {X : Type 0} (P : X → Type 0) where
  all_append : (xs ys : List X) → AllByRecursion P xs → AllByRecursion P ys → AllByRecursion P (xs ++ ys)
  all_append [] ys h k = k
  all_append (x ∷ xs) ys h k = (h.0, all_append xs ys h.1 k)

  all_prefixed : (f : X → X) (xs : List X) → AllByRecursion (λ x. P (f x)) xs → AllByRecursion P (map f xs)
  all_prefixed f [] h = tt
  all_prefixed f (x ∷ xs) h = (h.0, all_prefixed f xs h.1)

  all_kept : (b : Bool) (x : X) (xs : List X) → P x → AllByRecursion P xs → AllByRecursion P (cond b (x ∷ xs) xs)
  all_kept true x xs here rest = (here, rest)
  all_kept false x xs here rest = rest

  pub all_filter : (p : X → Bool) (xs : List X) → AllByRecursion P xs → AllByRecursion P (filter p xs)
  all_filter p [] h = tt
  all_filter p (x ∷ xs) h = all_kept (p x) x (filter p xs) h.0 (all_filter p xs h.1)

  all_from : (Q : X → Type 0) → ((x : X) → Q x → P x) → (xs : List X) → AllByRecursion Q xs → AllByRecursion P xs
  all_from Q to [] h = tt
  all_from Q to (x ∷ xs) h = (to x h.0, all_from Q to xs h.1)

module _ (I : Instance) (c : ℕ) where
  abbrev HasOther : ℕ → Type 0
  HasOther j = (customer_at I j).id ≢ c

  -- the customer of the id stands at no two of these places
  abbrev IsThereOnce : List ℕ → Type 0
  IsThereOnce [] = Unit {0}
  IsThereOnce (j ∷ js) = ((customer_at I j).id ≡ c → AllByRecursion HasOther js) × IsThereOnce js

  module _ (valid : IsValid I) (p : ℕ → Bool) where
    others_behind : (j : ℕ) → (customer_at I j).id ≡ c → (a n : ℕ) → j < a → a + n ≤ length I.customers → AllByRecursion HasOther (filter p (range_with_len a n))
    others_behind j is a zero before within = tt
    others_behind j is a (suc n) before within =
        all_kept HasOther (p a) a (filter p (range_with_len (a + 1) n))
        (λ same. let e : j ≡ a = one_place (λ (x : Customer). x.id) I.customers no_customer valid.customers_named.rising j a (omega (arith, before, within)) (omega (arith, within)) (is ∙ sym same) in omega (arith, e, before))
        (others_behind j is (a + 1) n (omega (arith, before)) (omega (arith, within)))

    once_kept : (b : Bool) (j : ℕ) (js : List ℕ) → ((customer_at I j).id ≡ c → AllByRecursion HasOther js) → IsThereOnce js → IsThereOnce (cond b (j ∷ js) js)
    once_kept true j js here rest = (here, rest)
    once_kept false j js here rest = rest

    pub there_once : (a n : ℕ) → a + n ≤ length I.customers → IsThereOnce (filter p (range_with_len a n))
    there_once a zero within = tt
    there_once a (suc n) within =
        once_kept (p a) a (filter p (range_with_len (a + 1) n))
        (λ is. others_behind a is (a + 1) n (omega arith) (omega (arith, within)))
        (there_once (a + 1) n (omega (arith, within)))

  -- Lanes of which that from a site to the customer costs a number, and the others stay.
  module _ (lanes : ℕ → Lanes) (d : Duals) (i : ℕ) (own : (x j : ℕ) → (customer_at I j).id ≡ c → cost_at (with_costs I I.sites (lanes x)) i j ≡ x) (others : (x j : ℕ) → (customer_at I j).id ≢ c → cost_at (with_costs I I.sites (lanes x)) i j ≡ cost_at I i j) where
    abbrev at : ℕ → Instance
    at x = with_costs I I.sites (lanes x)

    abbrev IsFlat : List ℕ → Type 0
    IsFlat set = (x : ℕ) → worth_of (at x) d i set ≡ worth_of I d i set

    abbrev IsWorthBent : List ℕ → Type 0
    IsWorthBent set = IsBent d.q (λ x. pos 0 -ℤ worth_of (at x) d i set)

    flat_sets : (js : List ℕ) → AllByRecursion HasOther js → AllByRecursion IsFlat (sets_of js)
    flat_sets [] all = ((λ x. refl), tt)
    flat_sets (j ∷ js) all =
        let rest : AllByRecursion IsFlat (sets_of js) = flat_sets js all.1 in
        all_append IsFlat (sets_of js) (map (λ set. j ∷ set) (sets_of js)) rest
        (all_prefixed IsFlat (λ set. j ∷ set) (sets_of js)
        (all_from (λ set. IsFlat (j ∷ set)) IsFlat (λ set same x. λ k. (v_at d j -ℤ pos (d.q * others x j all.0 k)) +ℤ same x k) (sets_of js) rest))

    with_own : (j : ℕ) → (customer_at I j).id ≡ c → (set : List ℕ) → IsFlat set → IsWorthBent (j ∷ set)
    with_own j is set same =
        bent_same d.q (λ x. pos 0 -ℤ worth_of (at x) d i (j ∷ set)) (λ x. (pos 0 -ℤ worth_of I d i set) +ℤ (pos 0 -ℤ (v_at d j -ℤ pos (d.q * x))))
        (λ x. (λ k. pos 0 -ℤ ((v_at d j -ℤ pos (d.q * own x j is k)) +ℤ same x k)) ∙ omega (arith, ints))
        (bent_plus d.q (pos 0 -ℤ worth_of I d i set) (λ x. pos 0 -ℤ (v_at d j -ℤ pos (d.q * x))) (bent_surplus d.q (v_at d j)))

    with_other : (j : ℕ) → HasOther j → (set : List ℕ) → IsWorthBent set → IsWorthBent (j ∷ set)
    with_other j other set bent =
        let paid : ℤ = v_at d j -ℤ pos (d.q * cost_at I i j) in
        bent_same d.q (λ x. pos 0 -ℤ worth_of (at x) d i (j ∷ set)) (λ x. (pos 0 -ℤ paid) +ℤ (pos 0 -ℤ worth_of (at x) d i set))
        (λ x. (λ k. pos 0 -ℤ ((v_at d j -ℤ pos (d.q * others x j other k)) +ℤ worth_of (at x) d i set)) ∙ omega (arith, ints))
        (bent_plus d.q (pos 0 -ℤ paid) (λ x. pos 0 -ℤ worth_of (at x) d i set) bent)

    bent_sets : (js : List ℕ) → IsThereOnce js → AllByRecursion IsWorthBent (sets_of js)
    bent_sets [] once = (bent_flat d.q (pos 0 -ℤ pos 0), tt)
    bent_sets (j ∷ js) once =
        let rest : AllByRecursion IsWorthBent (sets_of js) = bent_sets js once.1 in
        let added : AllByRecursion (λ set. IsWorthBent (j ∷ set)) (sets_of js) =
        elim (cases_eq (customer_at I j).id c) [
          | inl is ↦ all_from (λ set. IsWorthBent (j ∷ set)) IsFlat (with_own j is) (sets_of js) (flat_sets js (once.0 is))
          | inr other ↦ all_from (λ set. IsWorthBent (j ∷ set)) IsWorthBent (with_other j other) (sets_of js) rest
        ] in
        all_append IsWorthBent (sets_of js) (map (λ set. j ∷ set) (sets_of js)) rest (all_prefixed IsWorthBent (λ set. j ∷ set) (sets_of js) added)

    -- the best set, taken off
    pub best_bent : IsValid I → (path : Path) → i < length I.sites → ((x : ℕ) → DifferInCosts I I.sites (lanes x)) → IsBent d.q (λ x. pos 0 -ℤ best_set (at x) path d i)
    unfolding best_set
    best_bent valid path b h =
        let may : ℕ → Bool = λ j. is_allowed I path (site_at I i) (customer_at I j) in
        let holds : List ℕ → Bool = λ set. holds_demand (site_at I i).cap (demand_of_set I set) in
        let sets : List (List ℕ) = filter holds (sets_of (filter may (range_with_len 0 (length I.customers)))) in
        let each : AllByRecursion IsWorthBent sets = all_filter IsWorthBent holds _ (bent_sets (filter may (range_with_len 0 (length I.customers))) (there_once valid may 0 (length I.customers) (omega arith))) in
        bent_same d.q (λ x. pos 0 -ℤ best_set (at x) path d i) (λ x. pos 0 -ℤ fold (λ best set. int_max best (worth_of (at x) d i set)) (pos 0) sets)
        (λ x. λ k. pos 0 -ℤ fold (λ best set. int_max best (worth_of (at x) d i set)) (pos 0)
        (filter holds (sets_of (filter (λ j. allowed_same I I.sites (lanes x) (h x) path i b j k) (range_with_len 0 (length I.customers))))))
        (bent_greatest d.q (λ x set. worth_of (at x) d i set) (λ _. pos 0) sets (bent_flat d.q (pos 0 -ℤ pos 0)) each)
