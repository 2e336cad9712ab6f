-- What the customers that are forced to a site demand, added up customer by customer.
use Rattle.std.proofs.Common.{◌≡◌, ℕ, ◌+◌, ◌*◌, ◌<◌, ◌≤◌, refl, sym, ap, subst, ◌∙◌, inl, inr, arith, Bool, true, false, List, [], ◌∷◌, ◌++◌, map, length, Option, None, Some, ℤ, pos}
use Rattle.std.specs.Prelude.{IfSome, IsTrue, sum_by, slice_index, slice_set, if◌then◌else◌}
use Rattle.std.specs.List.{range_with_len}
use Rattle.std.proofs.lemmas.Bool.{and_parts, and_from, cases_eq, cases_lt, eqb-true, eq-eqb, false_from_ne_true}
use Rattle.std.proofs.lemmas.Option.{same_Some}
use Rattle.std.proofs.lemmas.List.{length-set, get_or-set_same, get_or-set_other, get_or_past}
use Rattle.std.proofs.lemmas.List.FromFn.{map-range_with_len_more}
use Rattle.std.proofs.lemmas.List.Sums.{sum_by_push, sum_by-le}
use Rattle.location_terms.specs.Instance.{Instance, Customer, IsValid, site_at, customer_at}
use Rattle.location_terms.specs.Box.{Path, is_allowed}
use Rattle.location_terms.specs.declared.limits.TheConstants.{MAX_AMOUNT}
use Rattle.dual_ascent.specs.Levels.{site_places, servers}
use Rattle.dual_adjust.proofs.MoreThanOne.{two_pass}
use Rattle.plan_search.proofs.Among.{place-contained}
use Rattle.plan_search.proofs.Flagging.{passing, passing_yes, passing_no, passing_short}
use Rattle.tree_search.specs.Rays.{is_forced}
use Rattle.tree_search.specs.Service.{IsServiceOf, only_site}
use Rattle.tree_search.specs.declared.serving.Service.{Service}
use Rattle.tree_search.specs.declared.serving.Service.TheVariants.{Nowhere, Only, Several}

-- one number more
pub pushed_more : (f : ℕ → ℤ) (n : ℕ) (old new : List ℤ) (x : ℤ) → new ≡ old ++ x ∷ [] → old ≡ map f (range_with_len 0 n) → x ≡ f n → new ≡ map f (range_with_len 0 (n + 1))
pushed_more f n old new x pushed before is =
    pushed ∙ ap (λ (xs : List ℤ). xs ++ x ∷ []) before ∙ ap (λ (y : ℤ). map f (range_with_len 0 n) ++ y ∷ []) is ∙ sym (map-range_with_len_more f 0 n n (omega arith))

pub zero_is : (b : Bool) (x : ℤ) → (b ≡ true → ⊥) → pos 0 ≡ (if b then x else pos 0)
zero_is true x h = absurd (h refl)
zero_is false x h = refl

pub none_some : (i : ℕ) → None ≡ Some i → ⊥
none_some i e = cc

module _ (I : Instance) (path : Path) where
  -- a customer is forced to one site alone
  pub forced_alone : (i k j : ℕ) → i < length I.sites → k < length I.sites → is_forced I path i j ≡ true → is_allowed I path (site_at I k) (customer_at I j) ≡ true → k ≡ i
  forced_alone i k j b c forced allowed =
      let parts = and_parts _ _ forced in
      let one : length (servers I path j) ≡ 1 = eqb-true _ _ parts.1 in
      elim (cases_eq k i) [
        | inl same ↦ same
        | inr apart ↦
            let two = two_pass (λ n. is_allowed I path (site_at I n) (customer_at I j)) (site_places I) k i (place-contained (length I.sites) k c) (place-contained (length I.sites) i b) allowed parts.0 apart in
            absurd (omega (arith, one, two))
      ]

  -- the only site that a walk found is that to which the customer is forced
  pub only_within : (j : ℕ) (s : Service) → IsServiceOf I path j s → IfSome (only_site s) (λ i. i < length I.sites)
  only_within j Nowhere is = tt
  only_within j (Only i) is = is.0
  only_within j (Several i) is = tt

  pub only_forced : (j : ℕ) (s : Service) → IsServiceOf I path j s → IfSome (only_site s) (λ i. IsTrue (is_forced I path i j))
  only_forced j Nowhere is = tt
  only_forced j (Only i) is = and_from _ _ is.1 (eq-eqb _ _ is.2)
  only_forced j (Several i) is = tt

  pub only_alone : (j : ℕ) (s : Service) → IsServiceOf I path j s → (i : ℕ) → i < length I.sites → IsTrue (is_forced I path i j) → only_site s ≡ Some i
  only_alone j Nowhere is i b forced = let one : length (servers I path j) ≡ 1 = eqb-true _ _ (and_parts _ _ forced).1 in absurd (omega (arith, is, one))
  only_alone j (Only k) is i b forced = ap Some (forced_alone i k j b is.0 forced is.1)
  only_alone j (Several k) is i b forced = let one : length (servers I path j) ≡ 1 = eqb-true _ _ (and_parts _ _ forced).1 in absurd (omega (arith, is.2, one))

  abbrev demand : ℕ → ℕ
  demand j = (customer_at I j).demand

  -- what the first customers that are forced to the site demand
  abbrev pub forced_first : ℕ → ℕ → ℕ
  forced_first i n = sum_by demand (passing (is_forced I path i) n)

  abbrev pub AreLoads : ℕ → List ℕ → Type 0
  AreLoads n loads = (i : ℕ) → i < length loads → slice_index loads i ≡ forced_first i n

  first_yes : (i n : ℕ) → is_forced I path i n ≡ true → forced_first i (n + 1) ≡ forced_first i n + demand n
  first_yes i n forced = ap (sum_by demand) (passing_yes (is_forced I path i) n forced) ∙ sum_by_push demand (passing (is_forced I path i) n) n

  first_no : (i n : ℕ) → (is_forced I path i n ≡ true → ⊥) → forced_first i (n + 1) ≡ forced_first i n
  first_no i n other = ap (sum_by demand) (passing_no (is_forced I path i) n (false_from_ne_true _ other))

  module _ (n : ℕ) (o : Option ℕ) (alone : (i : ℕ) → i < length I.sites → IsTrue (is_forced I path i n) → o ≡ Some i) (old : List ℕ) (long : length old ≡ length I.sites) (before : AreLoads n old) where
    -- a customer that is forced nowhere
    pub loads_kept : o ≡ None → AreLoads (n + 1) old
    loads_kept none i b = before i b ∙ sym (first_no i n (λ forced. none_some i (sym none ∙ alone i (omega (arith, b, long)) forced)))

    -- one that is
    pub loads_more : (k : ℕ) → o ≡ Some k → k < length I.sites → is_forced I path k n ≡ true → (new : List ℕ) → new ≡ slice_set old k (slice_index old k + demand n) → AreLoads (n + 1) new
    loads_more k some b forced new is i c =
        let here : ℕ = slice_index old k + demand n in
        let inside : k < length old = omega (arith, b, long) in
        let within : i < length old = omega (arith, c, ap length is, length-set old k here) in
        elim (cases_eq i k) [
          | inl same ↦
              subst (λ m. slice_index new m ≡ forced_first m (n + 1)) (sym same)
              (ap (λ xs. slice_index xs k) is ∙ get_or-set_same old k here 0 inside ∙ ap (λ x. x + demand n) (before k inside) ∙ sym (first_yes k n forced))
          | inr other ↦
              ap (λ xs. slice_index xs i) is ∙ get_or-set_other old k i here 0 other ∙ before i within
              ∙ sym (first_no i n (λ also. other (sym (same_Some k i (sym some ∙ alone i (omega (arith, within, long)) also)))))
        ]

  module _ (valid : IsValid I) where
    pub small_demand : (j : ℕ) → demand j ≤ MAX_AMOUNT
    small_demand j = elim (cases_lt j (length I.customers)) [
      | inl inside ↦ valid.demands_small j _ inside
      | inr past ↦ omega (arith, ap (λ (c : Customer). c.demand) (get_or_past I.customers j (record { id = 0; demand = 0 }) past))
    ]

    pub first_small : (i n : ℕ) → forced_first i n ≤ n * MAX_AMOUNT
    first_small i n =
        let xs : List ℕ = passing (is_forced I path i) n in
        let sum : sum_by demand xs ≤ length xs * MAX_AMOUNT = sum_by-le demand MAX_AMOUNT xs (λ k d b. small_demand _) in
        let few = passing_short (is_forced I path i) n in
        omega (arith, sum, few)
