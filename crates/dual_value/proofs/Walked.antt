-- What one more customer pays, from a walk over its lanes up to the first that costs as much as its dual.
use Rattle.std.proofs.Common.{◌≡◌, ℕ, ◌+◌, ◌*◌, ◌<◌, ◌≤◌, sym, ap, subst, ◌∙◌, arith, List, map, length, All, Some, get_or, slice_index_or, ℤ, pos, ◌-ℤ◌, ◌≤ℤ◌}
use Rattle.std.specs.Prelude.{IfSome}
use Rattle.std.specs.Int.RustNames.{unsigned_abs}
use Rattle.std.specs.List.Sorted.{IsNonDecreasingBy}
use Rattle.std.proofs.Math.Nat.{mul-le-mul}
use Rattle.std.proofs.lemmas.List.{get_or_default}
use Rattle.std.proofs.lemmas.Int.{ints}
use Rattle.location_terms.specs.Instance.{Instance, IsValid, site_at, customer_at}
use Rattle.location_terms.specs.Box.{Path}
use Rattle.location_terms.specs.Bound.{Duals, total, paid_at, v_at}
use Rattle.location_terms.specs.Fit.{DualsFit}
use Rattle.location_terms.specs.declared.limits.TheConstants.{MAX_AMOUNT, MAX_VALUE}
use Rattle.lane_order.specs.declared.order.PlacedLane.{PlacedLane}
use Rattle.lane_order.specs.Order.{Order, IsOrderOf, lanes_to}
use Rattle.lane_order.specs.Placed.{named}
use Rattle.lane_order.proofs.Walks.{site_within, placed_is_lane}
use Rattle.lane_order.proofs.Spread.{IsSpread, number_kept, spread_all}
use Rattle.dual_value.specs.Paid.{AreLeftBy, priced_cost}
use Rattle.dual_value.specs.declared.bounds.TheConstants.{MAX_SLACK}
use Rattle.dual_value.proofs.Payments.{unpaid_without_lane, unpaid_when_dear, left_small}
use Rattle.dual_value.proofs.Sizes.{total_more}

module _ (I : Instance) (path : Path) (d : Duals) (valid : IsValid I) (fit : DualsFit I d) (order : Order) (of : IsOrderOf order I) (j : ℕ) (within : j < length I.customers) (lanes : List PlacedLane) (exact : map (named order.sites) lanes ≡ lanes_to order j) (known : All (λ l. l.site < length order.sites) lanes) where
  abbrev amount : ℕ → ℤ
  amount i = paid_at I path d i j

  pub cost_small : (k : ℕ) (e : PlacedLane) → k < length lanes → (get_or lanes k e).cost ≤ MAX_AMOUNT
  cost_small k e b =
      let l = get_or lanes k e in
      let small : IfSome (Some l.cost) (λ cost. cost ≤ MAX_AMOUNT) = subst (λ o. IfSome o (λ cost. cost ≤ MAX_AMOUNT)) (placed_is_lane I order of j within lanes exact known k e b) (valid.lanes_small (site_at I l.site).id (customer_at I j).id) in
      small

  module _ (old : List ℤ) (left : AreLeftBy I path d j old) where
    -- the slack of the next lane's site is well within the size of a slack
    pub next_small : (k : ℕ) (e : PlacedLane) (mid : List ℤ) → k < length lanes → IsSpread lanes amount k old mid → unsigned_abs (slice_index_or mid (get_or lanes k e).site (pos 0)) + MAX_VALUE ≤ MAX_SLACK
    next_small k e mid b behind =
        let i = (get_or lanes k e).site in
        let inside : i < length I.sites = site_within I order of j within lanes exact known k e b in
        let is : slice_index_or mid i (pos 0) ≡ priced_cost I d i -ℤ total (paid_at I path d i) j = number_kept I order of j within lanes exact known amount old mid k e b behind ∙ left.each i inside in
        subst (λ x. unsigned_abs x + MAX_VALUE ≤ MAX_SLACK) (sym is) (left_small I path d valid fit i j inside (omega (arith, within)))

    -- where nothing is paid for the lanes behind the walk's end, one more customer has paid
    pub left_by_more : (k : ℕ) (new : List ℤ) → k ≤ length lanes → IsSpread lanes amount k old new → ((m : ℕ) (e : PlacedLane) → k ≤ m → m < length lanes → amount (get_or lanes m e).site ≡ pos 0) → AreLeftBy I path d (j + 1) new
    left_by_more k new few spread rest = record {
      count = spread.count ∙ left.count;
      each = λ i b.
          let less = spread_all I order of j within lanes exact known valid.sites_named.rising amount k old new few spread rest (λ n _ none. unpaid_without_lane I path d n j none) i b in
          let before = left.each i b in
          let more = total_more (paid_at I path d i) j in
          omega (arith, ints, less, before, more);
    }

    -- each lane was walked
    pub left_at_end : (k : ℕ) (new : List ℤ) → k ≤ length lanes → length lanes ≤ k → IsSpread lanes amount k old new → AreLeftBy I path d (j + 1) new
    left_at_end k new few all spread = left_by_more k new few spread (λ m e late b. absurd (omega (arith, late, b, all)))

    -- the next lane costs as much as the dual
    pub left_at_stop : IsNonDecreasingBy (λ l. l.cost) lanes → (k : ℕ) (f : PlacedLane) (new : List ℤ) → k < length lanes → v_at d j ≤ℤ pos (d.q * (get_or lanes k f).cost) → IsSpread lanes amount k old new → AreLeftBy I path d (j + 1) new
    left_at_stop rising k f new b dear spread =
        left_by_more k new (omega (arith, b)) spread (λ m e late inside.
        let l = get_or lanes m e in
        let same : (get_or lanes k e).cost ≡ (get_or lanes k f).cost = ap (λ (x : PlacedLane). x.cost) (get_or_default lanes k e f b) in
        let costs_more : (get_or lanes k f).cost ≤ l.cost = omega (arith, same, rising k m e late inside) in
        let scaled : d.q * (get_or lanes k f).cost ≤ d.q * l.cost = mul-le-mul (omega arith) costs_more in
        unpaid_when_dear I path d l.site j l.cost (placed_is_lane I order of j within lanes exact known m e inside) (omega (arith, ints, dear, scaled)))
