-- What a walk over a customer's lanes from the cheapest on finds out of the sites that the customer pays.
use Rattle.std.proofs.Common.{◌≡◌, ◌≢◌, ℕ, ◌+◌, ◌*◌, ◌<◌, ◌≤◌, sym, ap, subst, ◌∙◌, inl, inr, arith, Bool, true, false, List, map, length, get_or, Option, Some, unwrap_or, ℤ, pos, ◌≤ℤ◌}
use Rattle.std.specs.Prelude.{not, All, IfSome, int_lt, int_le}
use Rattle.std.specs.List.Sorted.{IsNonDecreasingBy}
use Rattle.std.proofs.Math.Nat.{mul-le-mul_left}
use Rattle.std.proofs.lemmas.Bool.{cases_Bool, and_parts, and_from, and_right}
use Rattle.std.proofs.lemmas.Int.{ints}
use Rattle.std.proofs.lemmas.List.{get_or_default}
use Rattle.location_terms.specs.Instance.{Instance, IsValid, site_at, customer_at, lane}
use Rattle.location_terms.specs.Box.{Path, is_allowed}
use Rattle.location_terms.specs.Bound.{Duals, v_at, u_at, level_at}
use Rattle.location_terms.specs.declared.limits.TheConstants.{MAX_AMOUNT}
use Rattle.lane_order.specs.declared.order.PlacedLane.{PlacedLane}
use Rattle.lane_order.specs.Order.{Order, IsOrderOf, lanes_to}
use Rattle.lane_order.specs.Placed.{named}
use Rattle.lane_order.proofs.Walks.{site_within, placed_is_lane, lane_is_placed}
use Rattle.lane_order.proofs.Spread.{one_rank}
use Rattle.dual_ascent.proofs.Tested.{int_lt-less, int_le-less}
use Rattle.dual_ascent.proofs.Walked.{allowed_has_lane}
use Rattle.dual_adjust.specs.Slackness.{is_tight, tight_sites, is_violating}
use Rattle.dual_adjust.specs.Paid.{is_paid, is_paid_tight}
use Rattle.dual_adjust.specs.Walk.{IsLaneWalk}
use Rattle.dual_adjust.proofs.MoreThanOne.{IsSeen, nothing_seen, seen_on, seen_same}
use Rattle.dual_adjust.proofs.Violating.{PaysNamed, two_paid, one_paid, tight_is_named, named_is_tight}

pub walk_of : {order : Order} {j : ℕ} {lanes : List PlacedLane} (J I : Instance) → J ≡ I → IsValid J → IsOrderOf order I → j < length I.customers → map (named order.sites) lanes ≡ lanes_to order j
    → All (λ l. l.site < length order.sites) lanes → IsNonDecreasingBy (λ l. l.cost) lanes → IsLaneWalk I order j lanes
walk_of J I same valid order_of within exact known rising = record { valid = subst IsValid same valid; order_of = order_of; within = within; exact = exact; known = known; rising = rising }

abbrev pub none : PlacedLane
none = record { cost = 0; site = 0 }

not_below : (l v : ℤ) → v ≤ℤ l → int_lt l v ≡ false
not_below l v h = elim (cases_Bool (int_lt l v)) [ inl below ↦ let less = int_lt-less l v below in absurd (omega (arith, ints, h, less)) | inr not ↦ not ]

module _ (I : Instance) (path : Path) (d : Duals) where
  abbrev lane_at : ℕ → ℕ → Option ℕ
  lane_at i j = lane I (site_at I i).id (customer_at I j).id

  -- a site that is paid has a lane
  pub paid_has_lane : (i j : ℕ) → is_paid I path d i j ≡ true → (cost : ℕ) × (lane_at i j ≡ Some cost)
  paid_has_lane i j paid = allowed_has_lane I path i j (and_parts (is_allowed I path (site_at I i) (customer_at I j)) (int_lt (level_at I d i j) (v_at d j)) paid).0

  -- a lane that costs as much as the customer's dual is not paid
  pub dear_is_unpaid : (i j cost : ℕ) → lane_at i j ≡ Some cost → v_at d j ≤ℤ pos (d.q * cost) → is_paid I path d i j ≡ false
  dear_is_unpaid i j cost is dear =
      let level : level_at I d i j ≡ pos (d.q * cost + u_at d i * (customer_at I j).demand) = ap (λ (o : Option ℕ). pos (d.q * unwrap_or o 0 + u_at d i * (customer_at I j).demand)) is in
      let above : pos (d.q * cost) ≤ℤ pos (d.q * cost + u_at d i * (customer_at I j).demand) = omega (arith, ints) in
      and_right (is_allowed I path (site_at I i) (customer_at I j)) (int_lt (level_at I d i j) (v_at d j)) (not_below (level_at I d i j) (v_at d j) (omega (arith, ints, level, above, dear)))

  pub lane_small : IsValid I → (i j cost : ℕ) → lane_at i j ≡ Some cost → cost ≤ MAX_AMOUNT
  lane_small valid i j cost is = subst (λ (o : Option ℕ). IfSome o (λ x. x ≤ MAX_AMOUNT)) is (valid.lanes_small (site_at I i).id (customer_at I j).id)

  module _ (order : Order) (j : ℕ) (lanes : List PlacedLane) (walk : IsLaneWalk I order j lanes) where
    abbrev pub pays_tight : ℕ → Bool
    pays_tight i = is_paid_tight I path d i j

    -- the site of the lane of a rank
    abbrev pub site_of : ℕ → ℕ
    site_of r = (get_or lanes r none).site

    pub rank_is_lane : (r : ℕ) → r < length lanes → lane_at (site_of r) j ≡ Some (get_or lanes r none).cost
    rank_is_lane r b = placed_is_lane I order walk.order_of j walk.within lanes walk.exact walk.known r none b

    pub rank_is_small : (r : ℕ) → r < length lanes → (get_or lanes r none).cost ≤ MAX_AMOUNT
    rank_is_small r b = lane_small walk.valid (site_of r) j (get_or lanes r none).cost (rank_is_lane r b)

    -- from a lane that costs as much as the dual on, no lane is paid
    pub dear_on : (k : ℕ) → k < length lanes → int_le (v_at d j) (pos (d.q * (get_or lanes k none).cost)) ≡ true → (r : ℕ) → k ≤ r → r < length lanes → is_paid I path d (site_of r) j ≡ false
    dear_on k b test r later inside =
        let dear : v_at d j ≤ℤ pos (d.q * (get_or lanes k none).cost) = int_le-less (v_at d j) (pos (d.q * (get_or lanes k none).cost)) test in
        let more : d.q * (get_or lanes k none).cost ≤ d.q * (get_or lanes r none).cost = omega (arith, mul-le-mul_left d.q (walk.rising k r none later inside)) in
        dear_is_unpaid (site_of r) j (get_or lanes r none).cost (rank_is_lane r inside) (omega (arith, ints, dear, more))

    -- a site that is paid is that of some lane
    pub paid_rank : (i : ℕ) → i < length I.sites → is_paid I path d i j ≡ true → (r : ℕ) × (r < length lanes) × (site_of r ≡ i)
    paid_rank i b paid =
        let has = paid_has_lane i j paid in
        let c = lane_is_placed I order walk.order_of j walk.within lanes walk.exact walk.known walk.valid.sites_named.rising i has.0 b has.1 in
        let wanted : PlacedLane = record { cost = has.0; site = i } in
        (c.0, c.1, ap (λ (l : PlacedLane). l.site) (get_or_default lanes c.0 none wanted c.1 ∙ c.2))

    tight_paid : (r : ℕ) → r < length lanes → pays_tight (site_of r) ≡ true → PaysNamed I path d j (tight_sites I path d) (site_of r)
    tight_paid r b passes =
        let parts = and_parts (is_tight I path d (site_of r)) (is_paid I path d (site_of r) j) passes in
        let inside : site_of r < length I.sites = site_within I order walk.order_of j walk.within lanes walk.exact walk.known r none b in
        (inside, tight_is_named I path d walk.valid (site_of r) inside parts.0, parts.1)

    -- the next lane's site is the second tight one that the customer pays
    second_lane : (k : ℕ) → k < length lanes → IsSeen pays_tight site_of k true → pays_tight (site_of k) ≡ true → is_violating I path d (tight_sites I path d) j ≡ true
    second_lane k b found passes =
        let before = found.1 in
        let c : found.0 < length lanes = omega (arith, before, b) in
        let apart : site_of found.0 ≢ site_of k = λ same. let one : found.0 ≡ k = one_rank I order walk.order_of j walk.within lanes walk.exact walk.known found.0 k none c b same in omega (arith, one, before) in
        two_paid I path d j (tight_sites I path d) (site_of found.0) (site_of k) (tight_paid found.0 c found.2) (tight_paid k b passes) apart

    -- there is no second one
    no_second_lane : (seen : Bool) → IsSeen pays_tight site_of (length lanes) seen → is_violating I path d (tight_sites I path d) j ≡ false
    no_second_lane seen all_seen =
        let one = seen_same pays_tight site_of seen (length lanes) all_seen in
        one_paid I path d j (tight_sites I path d) one.0 (λ i h.
        let at = paid_rank i h.0 h.2 in
        let passes : pays_tight i ≡ true = and_from (is_tight I path d i) (is_paid I path d i j) (named_is_tight I path d walk.valid i h.0 h.1) h.2 in
        sym at.2 ∙ one.1 at.0 at.1 (ap pays_tight at.2 ∙ passes))

    -- whether some site of the first k lanes is tight and paid
    abbrev pub HasSeen : ℕ → Bool → Type 0
    HasSeen = IsSeen pays_tight site_of

    pub none_seen : HasSeen 0 false
    none_seen = nothing_seen pays_tight site_of

    -- what the walk answers at the second one, at a lane that costs as much as the dual, and at the end
    pub at_second : (seen : Bool) (k : ℕ) → k < length lanes → seen ≡ true → HasSeen k seen → pays_tight (site_of k) ≡ true → true ≡ is_violating I path d (tight_sites I path d) j
    at_second seen k b one so_far passes = sym (second_lane k b (subst (HasSeen k) one so_far) passes)

    pub at_dear : (seen : Bool) (k : ℕ) → k < length lanes → int_le (v_at d j) (pos (d.q * (get_or lanes k none).cost)) ≡ true → HasSeen k seen → false ≡ is_violating I path d (tight_sites I path d) j
    at_dear seen k b dear so_far =
        let fails : (r : ℕ) → k ≤ r → r < length lanes → pays_tight (site_of r) ≡ false = λ r later inside. and_right (is_tight I path d (site_of r)) (is_paid I path d (site_of r) j) (dear_on k b dear r later inside) in
        sym (no_second_lane seen (seen_on pays_tight site_of seen k (length lanes) so_far fails (omega (arith, b))))

    pub at_last : (seen : Bool) (k : ℕ) → k ≡ length lanes → HasSeen k seen → false ≡ is_violating I path d (tight_sites I path d) j
    at_last seen k all so_far = sym (no_second_lane seen (subst (λ n. HasSeen n seen) all so_far))
