-- A box in which counting alone shows nothing, and nothing is left to decide, is closed by the plain ascent and the plan that is packed in it.
use Rattle.std.proofs.Common.{◌≡◌, ℕ, zero, suc, ◌*◌, ◌<◌, ◌≤◌, refl, sym, ap, subst, ◌∙◌, inl, inr, arith, Bool, true, false, cond, List, length, map, Some, unwrap_or, ℤ, pos, ◌-ℤ◌, ◌≤ℤ◌}
use Rattle.std.specs.Prelude.{Contains, ◌||◌, sum_by, if◌then◌else◌}
use Rattle.std.specs.Int.{int_min}
use Rattle.std.proofs.lemmas.Int.{ints}
use Rattle.std.proofs.lemmas.Nat.{mul-le}
use Rattle.std.proofs.lemmas.Bool.{both_ways, cases_Bool}
use Rattle.std.proofs.lemmas.List.{length-replicate}
use Rattle.location_terms.specs.Instance.{Instance, IsValid, site_at, customer_at, lane, fixed_of}
use Rattle.location_terms.specs.Plan.{Plan, cost_of}
use Rattle.location_terms.specs.Box.{Path, is_free, is_opened, is_allowed}
use Rattle.location_terms.specs.Bound.{Duals, v_at, u_at, level_at, paid_at, slack_of, share_of, count_price, bound_of}
use Rattle.location_terms.specs.Fit.{BoundCloses}
use Rattle.location_terms.proofs.Totals.{total_zero}
use Rattle.location_terms.proofs.Places.{fixed_of-site_at}
use Rattle.dual_value.specs.Zeros.{zeros}
use Rattle.dual_value.proofs.Zeros.{zero_v, zero_u}
use Rattle.dual_ascent.specs.Levels.{site_places, customer_places, least_level}
use Rattle.dual_ascent.specs.Ascent.{IsAscended}
use Rattle.dual_ascent.proofs.Raised.{IsRisen}
use Rattle.plan_search.specs.InBox.{IsPathOf}
use Rattle.plan_search.specs.Packed.{is_among, remaining, chosen, by_falling_demand, cost_at, plan_of, packed}
use Rattle.plan_search.proofs.Among.{Contains-filter, place-contained}
use Rattle.plan_search.proofs.Sums.{sum_by-map}
use Rattle.plan_search.proofs.OpenSites.{chosen_state, chosen_below}
use Rattle.plan_search.proofs.Taken.{AreTaken, IsCheapestLane}
use Rattle.plan_search.proofs.PlanOf.{server_of, of_server, sum_served}
use Rattle.plan_search.proofs.Feasible.{packs, are_taken}
use Rattle.tree_search.specs.Made.{has_cap, plain_scale, IsPlainAscent}
use Rattle.tree_search.specs.Rays.{IsRayless}
use Rattle.tree_search.specs.Working.{IsSettled}
use Rattle.dual_ascent.proofs.Plain.{nothing_paid, no_cap_price}
use Rattle.tree_search.proofs.ZeroBound.{plain_scale_fits, uncapped}
use Rattle.tree_search.proofs.PlaceSums.{sum_at_most, kept_at_most}
use Rattle.tree_search.proofs.Reseated.{by_seat, least_has, least_there, IsWithin, comes_from, comes_to_seats, comes_within}
use Rattle.tree_search.proofs.SettledPlans.{lane_opened, one_lane, lane_chosen, settled_packs}

share_is : (opened free among : Bool) (slack : ℤ) (f : ℕ) → slack ≡ pos f → free ≡ false → ((opened || among) ≡ true → opened ≡ true) → cond (opened || among) (pos f) (pos 0) ≤ℤ (if opened then slack else (if free then int_min (pos 0) slack else pos 0))
share_is true free among slack f e none h = omega (arith, ints)
share_is false false true slack f e none h = let wrong = h refl in cc
share_is false false false slack f e none h = omega (arith, ints)
share_is false true among slack f e none h = cc

-- a bound of at least the scaled cost closes a box against the cost
closes_at : (bound : ℤ) (q cost : ℕ) → 1 ≤ q → pos (q * cost) ≤ℤ bound → BoundCloses bound q (Some cost)
closes_at bound q zero scaled least = inr (scaled, omega (arith, ints))
closes_at bound q (suc t) scaled least =
    let one_less : (pos (suc t) -ℤ pos 1) ≡ pos t = omega (arith, ints) in
    inr (scaled, rw one_less (omega (arith, ints)))

module _ (I : Instance) (path : Path) (valid : IsValid I) (known : IsPathOf I path) (rayless : IsRayless I path) (nothing_left : IsSettled I path) where
  opened : (i j : ℕ) → i < length I.sites → is_allowed I path (site_at I i) (customer_at I j) ≡ true → is_opened path (site_at I i) ≡ true
  opened = lane_opened I path rayless nothing_left

  module _ (d : Duals) (q : ℕ) (ascended : IsAscended I path (zeros I q) d) where
    long : length (zeros I q).v ≡ length I.customers
    long = length-replicate (length I.customers) (pos 0)

    risen : IsRisen I path (zeros I q) d
    risen = comes_from I path rayless.served opened (zeros I q) d long ascended

    price : (i : ℕ) → i < length I.sites → u_at d i ≡ 0
    price i b = ap (λ (us : List ℕ). u_at (record d { u = us }) i) risen.prices ∙ zero_u I q i b

    -- a level is what the lane costs, scaled
    level_is : (i j : ℕ) → i < length I.sites → level_at I d i j ≡ pos (q * cost_at I i j)
    level_is i j b = omega (arith, ints, ap (λ n. n * cost_at I i j) risen.scale, ap (λ u. u * (customer_at I j).demand) (price i b))

    zeros_within : IsWithin I path (zeros I q)
    zeros_within j b i c allowed = omega (arith, ints, zero_v I q j b)

    within : IsWithin I path d
    within = comes_within I path rayless.served opened (zeros I q) d long ascended zeros_within

    slack_is : (i : ℕ) → i < length I.sites → slack_of I path d i ≡ pos (q * (site_at I i).fixed)
    slack_is i b =
        let unpaid = total_zero (paid_at I path d i) (length I.customers) (λ j c. nothing_paid (is_allowed I path (site_at I i) (customer_at I j)) (v_at d j) (level_at I d i j) (within j c i b)) in
        omega (arith, ints, unpaid, no_cap_price (u_at d i) (site_at I i).cap (price i b), ap (λ n. n * (site_at I i).fixed) risen.scale, risen.count_price)

    module _ (hint : List ℕ) (P : Plan) (is : packed I path hint ≡ Some P) where
      abbrev sites : List ℕ
      sites = chosen I path hint

      abbrev taken : List (ℕ × ℕ)
      taken = (packs I path hint P is).taken

      are : AreTaken I path sites (by_falling_demand I) taken
      are = are_taken I path hint valid P is

      server_below : (j : ℕ) → j < length I.customers → server_of taken j < length I.sites
      server_below j b = chosen_below I path hint (server_of taken j) (of_server I path sites taken are (λ t. Contains sites t.1) are.chosen j b)

      -- the lane taken is a cheapest allowed one
      taken_least : (j : ℕ) → j < length I.customers → (i : ℕ) → i < length I.sites → is_allowed I path (site_at I i) (customer_at I j) ≡ true → cost_at I (server_of taken j) j ≤ cost_at I i j
      taken_least j b i c allowed =
          elim (cases_Bool (has_cap I)) [
            | inl caps ↦
                let its = of_server I path sites taken are (λ t. is_allowed I path (site_at I t.1) (customer_at I t.0) ≡ true) are.allowed j b in
                let same = one_lane I path rayless nothing_left caps j b (server_of taken j) i (server_below j b) c its allowed in
                omega (arith, ap (λ n. cost_at I n j) same)
            | inr none ↦ of_server I path sites taken are (λ t. IsCheapestLane I path sites t) are.cheap j b i (lane_chosen I path rayless nothing_left hint i j c allowed) allowed (uncapped I none i _ c)
          ]

      -- so that it costs, scaled, no more than the customer's dual
      lane_at_most : (j : ℕ) → j < length I.customers → pos (q * cost_at I (server_of taken j) j) ≤ℤ v_at d j
      lane_at_most j b =
          let c : ℕ = cost_at I (server_of taken j) j in
          by_seat (least_level I path d j) (v_at d j) (pos (q * c) ≤ℤ v_at d j) (least_there I path d j (rayless.served j b))
          (least_has I path d j (λ l. l ≤ℤ v_at d j → pos (q * c) ≤ℤ v_at d j)
          (λ i within_sites allowed under.
          let product : q * c ≤ q * cost_at I i j = mul-le q c q (cost_at I i j) (omega arith) (taken_least j b i within_sites allowed) in
          omega (arith, ints, product, under, level_is i j within_sites)))
          (comes_to_seats I path rayless.served opened (zeros I q) d long ascended j b)

      -- a chosen site's share is what it costs to open it, scaled
      share_at_least : (i : ℕ) → i < length I.sites → cond (is_opened path (site_at I i) || is_among (remaining I path hint) i) (pos (q * fixed_of I (site_at I i).id)) (pos 0) ≤ℤ share_of I path d i
      share_at_least i b =
          share_is (is_opened path (site_at I i)) (is_free path (site_at I i)) (is_among (remaining I path hint) i) (slack_of I path d i) (q * fixed_of I (site_at I i).id)
          (slack_is i b ∙ ap (λ f. pos (q * f)) (sym (fixed_of-site_at I i valid.sites_named.rising b))) (nothing_left.sites i b)
          (λ test. elim (chosen_state I path hint i (Contains-filter (λ k. is_opened path (site_at I k) || is_among (remaining I path hint) k) (site_places I) i (place-contained (length I.sites) i b) test)) [
            | inl opens ↦ opens
            | inr free ↦ absurd (both_ways (is_free path (site_at I i)) (nothing_left.sites i b) free)
          ])

      lane_cost : ℕ × ℕ → ℕ
      lane_cost v = unwrap_or (lane I v.1 v.0) 0

      cost_at_most : pos (q * cost_of I (plan_of I sites taken)) ≤ℤ bound_of I path d
      unfolding lane_cost
      cost_at_most =
          let lanes : sum_by lane_cost (plan_of I sites taken).serves ≡ sum_by (λ j. cost_at I (server_of taken j) j) (customer_places I) = sum_served I path sites taken are lane_cost in
          let values = sum_at_most q (λ j. cost_at I (server_of taken j) j) (length I.customers) (v_at d) lane_at_most in
          let fixed : sum_by (fixed_of I) (map (λ i. (site_at I i).id) sites) ≡ sum_by (λ i. fixed_of I (site_at I i).id) sites = sum_by-map (fixed_of I) (λ i. (site_at I i).id) sites in
          let shares = kept_at_most q (λ i. fixed_of I (site_at I i).id) (length I.sites) (share_of I path d) (λ i. is_opened path (site_at I i) || is_among (remaining I path hint) i) share_at_least in
          let free : count_price I d.nu ≡ pos (0 * I.hi) = ap (count_price I) risen.count_price in
          omega (arith, ints, ap (λ n. q * n) lanes, values, ap (λ n. q * n) fixed, shares, free)

      closed : 1 ≤ q → BoundCloses (bound_of I path d) d.q (Some (cost_of I P))
      closed scaled =
          subst (λ n. BoundCloses (bound_of I path d) n (Some (cost_of I P))) (sym risen.scale)
          (closes_at (bound_of I path d) q (cost_of I P) scaled (subst (λ R. pos (q * cost_of I R) ≤ℤ bound_of I path d) (packs I path hint P is).plan cost_at_most))

  pub settled : (d : Duals) → IsPlainAscent I path d → (hint : List ℕ) → (P : Plan) × (packed I path hint ≡ Some P) × BoundCloses (bound_of I path d) d.q (Some (cost_of I P))
  settled d ascent hint =
      let plan = settled_packs I path rayless nothing_left hint in
      (plan.0, plan.1, closed d (plain_scale I) ascent hint plan.0 plan.1 (plain_scale_fits I).0)
