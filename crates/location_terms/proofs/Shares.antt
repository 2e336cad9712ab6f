-- What a site adds to the bound is covered by what a feasible plan of the box pays at the site.
use Rattle.std.proofs.Common.{◌≡◌, ℕ, ◌*◌, ◌+◌, ◌<◌, ◌≤◌, refl, sym, ap, ◌∙◌, inl, inr, arith, subst, Bool, true, false, cond, length, get_or, Option, None, Some, ℤ, pos, ◌+ℤ◌, ◌-ℤ◌, ◌≤ℤ◌}
use Rattle.std.specs.Prelude.{Contains, IfSome, is_some, ◌==◌, ◌&&◌, not, unwrap_or, if◌then◌else◌}
use Rattle.std.specs.List.{list_any}
use Rattle.std.specs.Int.{int_max, int_min}
use Rattle.std.proofs.lemmas.Int.{ints, clamps}
use Rattle.std.proofs.lemmas.Bool.{eqb-true, eq-eqb, le-leb, and_from, not_from_false, false_from_ne_true, false≢true}
use Rattle.std.proofs.lemmas.List.{map-id, get_or_default}
use Rattle.std.proofs.lemmas.List.Elements.{Contains-get_or}
use Rattle.std.proofs.lemmas.Nat.{mul-le}
use Rattle.location_terms.specs.Instance.{Instance, Site, IsValid, site_at, customer_at, lane}
use Rattle.location_terms.specs.Plan.{Plan, IsFeasible, load_of, KeepsStatus}
use Rattle.location_terms.specs.Box.{Path, IsInBox, is_closed, is_called_for, is_torn, is_allowed, holds_demand, bars_lane}
use Rattle.location_terms.specs.declared.form.LeafForm.{LeafForm}
use Rattle.location_terms.specs.declared.form.LeafForm.TheVariants.{Prices, Whole}
use Rattle.location_terms.specs.Bound.{Duals, AreDualsOf, v_at, u_at, total, paid_at, cap_price, slack_of}
use Rattle.location_terms.specs.Knapsack.{surplus_at}
use Rattle.location_terms.specs.Leaf.{slack_in, share_in}
use Rattle.location_terms.proofs.WholeSets.{collected}
use Rattle.location_terms.proofs.Totals.{total_le, total_plus, total_zero, total_at, total_nowhere}
use Rattle.location_terms.proofs.Rising.{one_place}
use Rattle.location_terms.proofs.Membership.{has_or_lacks}
use Rattle.location_terms.proofs.Kept.{closed_is_not_open, called_is_open, not_torn, used_is_not_barred}
use Rattle.location_terms.proofs.Served.{is_served_from, server_is_open, is_used, has_lane, load_at, total_load, demand_within_load}

-- the share of a site that is not closed is at most its slack
share_within_slack : (called closed : Bool) (slack : ℤ) → closed ≡ false
    → (if called && not closed then slack else (if not called && not closed then int_min (pos 0) slack else pos 0)) ≤ℤ slack
share_within_slack called true slack e = absurd (false≢true (sym e))
share_within_slack true false slack e = omega (arith, ints)
share_within_slack false false slack e = omega (arith, ints, clamps)

-- the share of a site that nothing asks for is at most 0
share_of_unopened : (called closed : Bool) (slack : ℤ) → called ≡ false
    → (if called && not closed then slack else (if not called && not closed then int_min (pos 0) slack else pos 0)) ≤ℤ pos 0
share_of_unopened true closed slack e = absurd (false≢true (sym e))
share_of_unopened false true slack e = omega (arith, ints)
share_of_unopened false false slack e = omega (arith, ints, clamps)

-- at an allowed lane the customer's dual is at most the lane's cost, the price of its demand and what the dual pays
lane_covered : (allowed used : Bool) (v : ℤ) (cost load : ℕ) → (used ≡ true → allowed ≡ true)
    → pos 0 ≤ℤ ((if allowed then int_max (pos 0) (v -ℤ pos (cost + load)) else pos 0) +ℤ (cond used (pos cost -ℤ v) (pos 0) +ℤ cond used (pos load) (pos 0)))
lane_covered true true v cost load e = omega (arith, ints, clamps)
lane_covered true false v cost load e = omega (arith, ints, clamps)
lane_covered false true v cost load e = absurd (false≢true (e refl))
lane_covered false false v cost load e = omega (arith, ints)

-- the price of a load within the capacity is at most that of the capacity
cap_covers : (u load : ℕ) (cap : Option ℕ) → (cap ≡ None → u ≡ 0) → IfSome cap (λ c. load ≤ c) → u * load ≤ cap_price u cap
cap_covers u load None unpriced within = omega (arith, ap (λ x. x * load) (unpriced refl))
cap_covers u load (Some cap) unpriced within = mul-le u load u cap (omega arith) within

-- a part of a load within the capacity is within it
cap_holds : (demand load : ℕ) (cap : Option ℕ) → demand ≤ load → IfSome cap (λ c. load ≤ c) → holds_demand cap demand ≡ true
cap_holds demand load None part within = refl
cap_holds demand load (Some cap) part within = le-leb demand cap (omega arith)

-- what a customer's dual pays above the cost of its lane, and what the plan pays above the dual
paid_back : (used : Bool) (v : ℤ) (cost : ℕ) → (cond used (v -ℤ pos cost) (pos 0) +ℤ cond used (pos cost -ℤ v) (pos 0)) ≡ pos 0
paid_back true v cost = omega (arith, ints)
paid_back false v cost = omega (arith, ints)

module _ (I : Instance) (path : Path) (d : Duals) (P : Plan) where
  -- what the plan pays for the site at i to be its k-th open one
  abbrev pub opening_at : ℕ → ℕ → ℤ
  opening_at i k = cond (get_or P.sites k 0 == (site_at I i).id) (pos (d.q * (site_at I i).fixed) +ℤ d.nu) (pos 0)

  -- what the plan pays for the lane from the site at i to the customer at j, above the customer's dual
  abbrev pub serving_at : ℕ → ℕ → ℤ
  serving_at i j = cond (is_served_from I P i j) (pos (d.q * unwrap_or (lane I (site_at I i).id (customer_at I j).id) 0) -ℤ v_at d j) (pos 0)

  module _ (valid : IsValid I) (duals : AreDualsOf I d) (feasible : IsFeasible I P) (in_box : IsInBox P path) (i : ℕ) (b : i < length I.sites) where
    keeps : KeepsStatus P (site_at I i).id (site_at I i).status
    keeps = feasible.statuses i _ b

    -- at an open site
    module _ (is_open : Contains P.sites (site_at I i).id) where
      not_closed : is_closed path (site_at I i) ≡ false
      not_closed = false_from_ne_true _ (λ t. closed_is_not_open I P feasible path in_box (site_at I i) keeps t is_open)

      load_within : IfSome (site_at I i).cap (λ cap. load_of I P (site_at I i).id ≤ cap)
      load_within = feasible.within_cap i _ b is_open

      used_is_allowed : (j : ℕ) → j < length I.customers → is_served_from I P i j ≡ true → is_allowed I path (site_at I i) (customer_at I j) ≡ true
      used_is_allowed j c used =
          let s : ℕ = (site_at I i).id in
          let c' : ℕ = (customer_at I j).id in
          let within = demand_within_load I valid P feasible i j c used in
          let holds : holds_demand (site_at I i).cap (customer_at I j).demand ≡ true = cap_holds _ (load_of I P s) _ within load_within in
          let barred : list_any (bars_lane s c') path ≡ false = used_is_not_barred I P feasible path in_box s c' (is_used I valid P feasible i j c used) in
          let has : is_some (lane I s c') ≡ true = has_lane I valid P feasible i j c used in
          let whole : not (is_torn I path) ≡ true = not_from_false _ (not_torn I P feasible path in_box) in
          and_from _ _ (and_from _ _ (and_from _ _ (and_from _ _ whole has) (not_from_false _ not_closed)) (not_from_false _ barred)) holds

      opened : total (opening_at i) (length P.sites) ≡ pos (d.q * (site_at I i).fixed) +ℤ d.nu
      opened =
          let here : get_or P.sites is_open.0 0 ≡ (site_at I i).id = get_or_default P.sites is_open.0 0 _ is_open.1 ∙ is_open.2 in
          total_at (λ _. pos (d.q * (site_at I i).fixed) +ℤ d.nu) (λ k. get_or P.sites k 0 == (site_at I i).id) (length P.sites) is_open.0 is_open.1
          (eq-eqb _ _ here)
          (λ k c t. one_place (λ x. x) P.sites 0 (rw map-id feasible.plan.sites_rise) k is_open.0 c is_open.1 (eqb-true _ _ t ∙ sym here))

      slack_covered : slack_of I path d i ≤ℤ (total (opening_at i) (length P.sites) +ℤ total (serving_at i) (length I.customers))
      slack_covered =
          let n : ℕ = length I.customers in
          let load : ℕ → ℤ = load_at I P (u_at d i) i in
          let term : ℕ → ℤ = λ j. paid_at I path d i j +ℤ (serving_at i j +ℤ load j) in
          let allowed : ℕ → Bool = λ j. is_allowed I path (site_at I i) (customer_at I j) in
          let each = total_le (λ _. pos 0) term n (λ j c. lane_covered (allowed j) (is_served_from I P i j) (v_at d j) _ _ (used_is_allowed j c)) in
          omega (
            arith,
            ints,
            each,
            total_zero (λ _. pos 0) n (λ _ _. refl),
            opened,
            total_plus (paid_at I path d i) (λ j. serving_at i j +ℤ load j) n,
            total_plus (serving_at i) load n,
            total_load I valid P feasible (u_at d i) i,
            cap_covers (u_at d i) _ _ (duals.unpriced i b) load_within,
          )

      -- what the site collects from the customers that it serves whole is within its best set
      whole_covered : slack_in Whole I path d i ≤ℤ (total (opening_at i) (length P.sites) +ℤ total (serving_at i) (length I.customers))
      whole_covered =
          let n : ℕ = length I.customers in
          let pays : ℕ → ℤ = λ j. cond (is_served_from I P i j) (surplus_at I d i j) (pos 0) in
          let holds : holds_demand (site_at I i).cap (load_of I P (site_at I i).id) ≡ true = cap_holds _ (load_of I P (site_at I i).id) _ (omega arith) load_within in
          omega (
            arith,
            ints,
            opened,
            collected I path d P i used_is_allowed (total_load I valid P feasible 1 i) holds,
            total_plus pays (serving_at i) n,
            total_zero (λ j. pays j +ℤ serving_at i j) n (λ j _. paid_back (is_served_from I P i j) (v_at d j) _),
          )

      slack_covered_in : (form : LeafForm) → slack_in form I path d i ≤ℤ (total (opening_at i) (length P.sites) +ℤ total (serving_at i) (length I.customers))
      slack_covered_in Prices = slack_covered
      slack_covered_in Whole = whole_covered

    -- at a site that is not open
    module _ (lacks : Contains P.sites (site_at I i).id → ⊥) where
      no_opening : total (opening_at i) (length P.sites) ≡ pos 0
      no_opening =
          total_nowhere _ (λ k. get_or P.sites k 0 == (site_at I i).id) (length P.sites) (λ k c t. lacks (subst (Contains P.sites) (eqb-true _ _ t) (Contains-get_or P.sites k 0 c)))

      no_serving : total (serving_at i) (length I.customers) ≡ pos 0
      no_serving =
          total_nowhere _ (is_served_from I P i) (length I.customers) (λ j c t. lacks (subst (Contains P.sites) (eqb-true _ _ t) (server_is_open I valid P feasible j c)))

    pub share_covered : (form : LeafForm) → share_in form I path d i ≤ℤ (total (opening_at i) (length P.sites) +ℤ total (serving_at i) (length I.customers))
    share_covered form =
        let s : Site = site_at I i in
        let slack : ℤ = slack_in form I path d i in
        let called : Bool = is_called_for path s in
        let closed : Bool = is_closed path s in
        elim (has_or_lacks P.sites s.id) [
          | inl is_open ↦
              let within : share_in form I path d i ≤ℤ slack = share_within_slack called closed slack (not_closed is_open) in
              omega (arith, ints, within, slack_covered_in is_open form)
          | inr lacks ↦
              let uncalled : called ≡ false = false_from_ne_true called (λ t. lacks (called_is_open I P feasible path in_box s keeps t)) in
              let nothing : share_in form I path d i ≤ℤ pos 0 = share_of_unopened called closed slack uncalled in
              omega (arith, ints, nothing, no_opening lacks, no_serving lacks)
        ]
