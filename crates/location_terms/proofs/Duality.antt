-- The sites' shares together: what the plan pays, summed by sites and then by open sites and by customers.
use Rattle.std.proofs.Common.{◌≡◌, ℕ, ◌*◌, ◌<◌, ◌≤◌, suc, sym, ap, ◌∙◌, arith, cond, length, get_or, ℤ, pos, negsuc, ◌+ℤ◌, ◌-ℤ◌, ◌≤ℤ◌}
use Rattle.std.specs.Prelude.{Contains, sum_by, ◌==◌, unwrap_or}
use Rattle.std.proofs.Math.IntN.{negsuc-*ℤ-pos}
use Rattle.std.proofs.lemmas.Int.{ints}
use Rattle.std.proofs.lemmas.Bool.{eqb-true, eq-eqb}
use Rattle.std.proofs.lemmas.List.Elements.{All-contains}
use Rattle.std.proofs.lemmas.Nat.{mul-le}
use Rattle.location_terms.specs.Instance.{Instance, IsValid, site_ids, site_at, customer_at, lane, fixed_of}
use Rattle.location_terms.specs.Plan.{Plan, IsFeasible, cost_of}
use Rattle.location_terms.specs.Box.{Path, IsInBox}
use Rattle.location_terms.specs.Bound.{Duals, AreDualsOf, v_at, total, count_price, bound_of}
use Rattle.location_terms.specs.declared.form.LeafForm.{LeafForm}
use Rattle.location_terms.specs.declared.form.LeafForm.TheVariants.{Prices}
use Rattle.location_terms.specs.Leaf.{share_in, bound_in, leaf_bound}
use Rattle.location_terms.proofs.Totals.{total_same, total_le, total_plus, total_minus, total_at, total_swap, total_price, total_refund}
use Rattle.location_terms.proofs.Listed.{total-sum_by}
use Rattle.location_terms.proofs.Places.{fixed_of-site_at}
use Rattle.location_terms.proofs.Rising.{place_of, one_place}
use Rattle.location_terms.proofs.Served.{service_at, as_many_served, customer_served, server_is_open}
use Rattle.location_terms.proofs.Shares.{opening_at, serving_at, share_covered}

-- the price on the number of sites, paid for each of count sites, is at most what the bound takes off for it
price_of_count : (I : Instance) (nu : ℤ) (count : ℕ) → I.lo ≤ count → count ≤ I.hi → total (λ _. nu) count ≤ℤ count_price I nu
price_of_count I (pos n) count low high = omega (arith, ints, total_price n count, mul-le n count n I.hi (omega arith) high)
price_of_count I (negsuc n) count low high =
    omega (arith, ints, total_refund n count, negsuc-*ℤ-pos n I.lo, mul-le (suc n) I.lo (suc n) count (omega arith) low)

module _ (I : Instance) (path : Path) (d : Duals) (P : Plan) (valid : IsValid I) (feasible : IsFeasible I P) where
  -- of the sites one has the id s, and a total over the sites of that id is its term
  at_site : (f : ℕ → ℤ) (s : ℕ) (known : Contains (site_ids I) s) → (i : ℕ) × (i < length I.sites) × ((site_at I i).id ≡ s) × (total (λ k. cond (s == (site_at I k).id) (f k) (pos 0)) (length I.sites) ≡ f i)
  at_site f s known =
      let place : (i : ℕ) × (i < length I.sites) × ((site_at I i).id ≡ s) = place_of (λ x. x.id) I.sites _ s known in (
        place.0,
        place.1,
        place.2,
        total_at f (λ k. s == (site_at I k).id) (length I.sites) place.0 place.1 (eq-eqb _ _ (sym place.2))
            (λ k c t. one_place (λ x. x.id) I.sites _ valid.sites_named.rising k place.0 c place.1 (sym (eqb-true _ _ t) ∙ sym place.2)),
      )

  -- the k-th open site is paid for once
  paid_once : (k : ℕ) → k < length P.sites → total (λ i. opening_at I path d P i k) (length I.sites) ≡ pos (d.q * fixed_of I (get_or P.sites k 0)) +ℤ d.nu
  paid_once k b =
      let here = at_site (λ i. pos (d.q * (site_at I i).fixed) +ℤ d.nu) (get_or P.sites k 0) (feasible.sites_known k 0 b) in
      here.3 ∙ ap (λ f. pos (d.q * f) +ℤ d.nu) (sym (fixed_of-site_at I here.0 valid.sites_named.rising here.1) ∙ ap (fixed_of I) here.2)

  -- what is paid for sites: their scaled fixed costs, and the price on their number
  openings : total (λ i. total (opening_at I path d P i) (length P.sites)) (length I.sites) ≡ pos (d.q * sum_by (fixed_of I) P.sites) +ℤ total (λ _. d.nu) (length P.sites)
  openings =
      let m : ℕ = length I.sites in
      let cost : ℕ → ℤ = λ k. pos (d.q * fixed_of I (get_or P.sites k 0)) in
      total_swap (opening_at I path d P) m (length P.sites)
      ∙ total_same (λ k. total (λ i. opening_at I path d P i k) m) (λ k. cost k +ℤ d.nu) (length P.sites) paid_once
      ∙ total_plus cost (λ _. d.nu) (length P.sites)
      ∙ ap (λ z. z +ℤ total (λ _. d.nu) (length P.sites)) (total-sum_by d.q (fixed_of I) P.sites 0)

  server_is_known : (j : ℕ) → j < length I.customers → Contains (site_ids I) (service_at P j).1
  server_is_known j b = All-contains (Contains (site_ids I)) P.sites (service_at P j).1 feasible.sites_known (server_is_open I valid P feasible j b)

  -- the customer at j is served once
  served_once : (j : ℕ) → j < length I.customers → total (λ i. serving_at I path d P i j) (length I.sites) ≡ pos (d.q * unwrap_or (lane I (service_at P j).1 (service_at P j).0) 0) -ℤ v_at d j
  served_once j b =
      let above_dual : ℕ → ℕ → ℤ = λ s c. pos (d.q * unwrap_or (lane I s c) 0) -ℤ v_at d j in
      let here = at_site (λ i. above_dual (site_at I i).id (customer_at I j).id) (service_at P j).1 (server_is_known j b) in
      here.3 ∙ ap (λ s. above_dual s (customer_at I j).id) here.2 ∙ ap (above_dual (service_at P j).1) (sym (customer_served I valid P feasible j b))

  -- what is paid for lanes: their scaled costs, above the duals of all customers
  servings : total (λ i. total (serving_at I path d P i) (length I.customers)) (length I.sites) ≡ pos (d.q * sum_by (λ v. unwrap_or (lane I v.1 v.0) 0) P.serves) -ℤ total (v_at d) (length I.customers)
  servings =
      let m : ℕ = length I.sites in
      let n : ℕ = length I.customers in
      let cost : ℕ → ℤ = λ j. pos (d.q * unwrap_or (lane I (service_at P j).1 (service_at P j).0) 0) in
      total_swap (serving_at I path d P) m n
      ∙ total_same (λ j. total (λ i. serving_at I path d P i j) m) (λ j. cost j -ℤ v_at d j) n served_once
      ∙ total_minus cost (v_at d) n
      ∙ ap (λ z. z -ℤ total (v_at d) n) (ap (total cost) (sym (as_many_served I valid P feasible)) ∙ total-sum_by d.q (λ v. unwrap_or (lane I v.1 v.0) 0) P.serves (0, 0))

  bound_in_within : (form : LeafForm) → AreDualsOf I d → IsInBox P path → bound_in form I path d ≤ℤ pos (d.q * cost_of I P)
  bound_in_within form duals in_box =
      let m : ℕ = length I.sites in
      let paid_for_sites : ℕ → ℤ = λ i. total (opening_at I path d P i) (length P.sites) in
      let paid_for_lanes : ℕ → ℤ = λ i. total (serving_at I path d P i) (length I.customers) in
      omega (
        arith,
        ints,
        total_le (share_in form I path d) (λ i. paid_for_sites i +ℤ paid_for_lanes i) m (λ i b. share_covered I path d P valid duals feasible in_box i b form),
        total_plus paid_for_sites paid_for_lanes m,
        openings,
        servings,
        price_of_count I d.nu (length P.sites) feasible.at_least feasible.at_most,
      )

  pub bound_within_cost : AreDualsOf I d → IsInBox P path → bound_of I path d ≤ℤ pos (d.q * cost_of I P)
  bound_within_cost = bound_in_within Prices

  pub leaf_bound_within_cost : AreDualsOf I d → IsInBox P path → leaf_bound I path d ≤ℤ pos (d.q * cost_of I P)
  leaf_bound_within_cost = bound_in_within d.form
