-- From where a customer can be served, found out by a walk over its lanes.
use Rattle.std.proofs.Common.{◌≡◌, ◌≢◌, ℕ, zero, suc, ◌+◌, ◌<◌, ◌≤◌, inl, inr, refl, sym, ap, subst, ◌∙◌, arith, Bool, true, false, List, length, get_or, Option, Some, None}
use Rattle.std.specs.Prelude.{IsSome}
use Rattle.std.specs.List.{range_with_len}
use Rattle.std.proofs.lemmas.Bool.{false≢true, cases_lt}
use Rattle.std.proofs.lemmas.List.{get_or_default}
use Rattle.std.proofs.lemmas.List.Elements.{Contains-get_or}
use Rattle.location_terms.specs.Instance.{Instance, site_at, customer_at, lane}
use Rattle.location_terms.specs.Box.{Path, is_allowed}
use Rattle.lane_order.specs.declared.order.PlacedLane.{PlacedLane}
use Rattle.lane_order.specs.Order.{Order}
use Rattle.lane_order.proofs.Walks.{site_within, placed_is_lane, lane_is_placed}
use Rattle.dual_ascent.specs.Levels.{servers}
use Rattle.dual_ascent.proofs.Walked.{allowed_has_lane}
use Rattle.dual_adjust.specs.Walk.{IsLaneWalk}
use Rattle.dual_adjust.proofs.LanesPaid.{none}
use Rattle.dual_adjust.proofs.Violating.{is_server, server_within}
use Rattle.dual_adjust.proofs.IdsRise.{places_rise}
use Rattle.dual_adjust.proofs.MoreThanOne.{two_pass, one_passes}
use Rattle.lane_order.proofs.Spread.{one_rank}
use Rattle.plan_search.proofs.Among.{place-contained, contained-place}
use Rattle.tree_search.specs.Service.{IsServiceOf, only}
use Rattle.tree_search.specs.declared.serving.Service.TheVariants.{Several}

-- of the first k lanes none is allowed, or just one, which is from this site
abbrev pub IsFound : Instance → Path → ℕ → List PlacedLane → ℕ → Option ℕ → Type 0
IsFound I path j lanes k None = (r : ℕ) → r < k → is_allowed I path (site_at I (get_or lanes r none).site) (customer_at I j) ≡ false
IsFound I path j lanes k (Some i) =
    (one : ℕ) × (one < k) × ((get_or lanes one none).site ≡ i) × (is_allowed I path (site_at I i) (customer_at I j) ≡ true)
    × ((r : ℕ) → r < k → is_allowed I path (site_at I (get_or lanes r none).site) (customer_at I j) ≡ true → r ≡ one)

module _ (I : Instance) (path : Path) (order : Order) (j : ℕ) (lanes : List PlacedLane) (walk : IsLaneWalk I order j lanes) where
  -- the site of the lane of a rank
  abbrev pub site_of : ℕ → ℕ
  site_of r = (get_or lanes r none).site

  abbrev pub allows : ℕ → Bool
  allows i = is_allowed I path (site_at I i) (customer_at I j)

  pub rank_within : (r : ℕ) → r < length lanes → site_of r < length I.sites
  rank_within r b = site_within I order walk.order_of j walk.within lanes walk.exact walk.known r none b

  pub rank_has_lane : (r : ℕ) → r < length lanes → IsSome (lane I (site_at I (site_of r)).id (customer_at I j).id)
  rank_has_lane r b = subst (λ (o : Option ℕ). IsSome o) (sym (placed_is_lane I order walk.order_of j walk.within lanes walk.exact walk.known r none b)) refl

  allowed_rank : (i : ℕ) → i < length I.sites → allows i ≡ true → (r : ℕ) × (r < length lanes) × (site_of r ≡ i)
  allowed_rank i b allowed =
      let has = allowed_has_lane I path i j allowed in
      let c = lane_is_placed I order walk.order_of j walk.within lanes walk.exact walk.known walk.valid.sites_named.rising i has.0 b has.1 in
      let wanted : PlacedLane = record { cost = has.0; site = i } in
      (c.0, c.1, ap (λ (l : PlacedLane). l.site) (get_or_default lanes c.0 none wanted c.1 ∙ c.2))

  -- the next lane isn't allowed
  pub found_still : (first : Option ℕ) (k : ℕ) → IsFound I path j lanes k first → allows (site_of k) ≡ false → IsFound I path j lanes (k + 1) first
  found_still None k before barred = λ r b. elim (cases_lt r k) [
    | inl below ↦ before r below
    | inr above ↦ let same : r ≡ k = omega (arith, above, b) in ap (λ n. allows (site_of n)) same ∙ barred
  ]
  found_still (Some i) k before barred = (
    before.0,
    omega (arith, before.1),
    before.2,
    before.3,
    λ r b allowed. elim (cases_lt r k) [
      | inl below ↦ before.4 r below allowed
      | inr above ↦ let same : r ≡ k = omega (arith, above, b) in absurd (false≢true (sym (ap (λ n. allows (site_of n)) same ∙ barred) ∙ allowed))
    ],
  )

  -- the next lane is the first that is
  pub found_first : (k : ℕ) → IsFound I path j lanes k None → allows (site_of k) ≡ true → IsFound I path j lanes (k + 1) (Some (site_of k))
  found_first k before allowed = (
    k,
    omega arith,
    refl,
    allowed,
    λ r b also. elim (cases_lt r k) [
      | inl below ↦ absurd (false≢true (sym (before r below) ∙ also))
      | inr above ↦ omega (arith, above, b)
    ],
  )

  -- the next lane is the second that is
  pub found_second : (i k : ℕ) → IsFound I path j lanes k (Some i) → k < length lanes → allows (site_of k) ≡ true → IsServiceOf I path j (Several i)
  found_second i k before b allowed =
      let first_within : before.0 < length lanes = omega (arith, before.1, b) in
      let i_within : i < length I.sites = subst (λ n. n < length I.sites) before.2 (rank_within before.0 first_within) in
      let apart : i ≢ site_of k = λ same. let ranks : before.0 ≡ k = one_rank I order walk.order_of j walk.within lanes walk.exact walk.known before.0 k none first_within b (before.2 ∙ same) in omega (arith, ranks, before.1) in (
        i_within,
        before.3,
        two_pass allows (range_with_len 0 (length I.sites)) i (site_of k) (place-contained (length I.sites) i i_within) (place-contained (length I.sites) (site_of k) (rank_within k b)) before.3 allowed apart,
      )

  -- there is no second one
  pub found_all : (first : Option ℕ) → IsFound I path j lanes (length lanes) first → IsServiceOf I path j (only first)
  found_all None barred = none_left (length (servers I path j)) (λ n. serves_none n)
    where
      none_left : (n : ℕ) → (n ≢ 0 → ⊥) → n ≡ 0
      none_left zero h = refl
      none_left (suc n) h = absurd (h (omega arith))

      serves_none : length (servers I path j) ≢ 0 → ⊥
      serves_none some =
          let inside : 0 < length (servers I path j) = omega (arith, some) in
          let i : ℕ = get_or (servers I path j) 0 0 in
          let server = server_within I path i j (Contains-get_or (servers I path j) 0 0 inside) in
          let at = allowed_rank i server.0 server.1 in
          false≢true (sym (barred at.0 at.1) ∙ ap allows at.2 ∙ server.1)
  found_all (Some i) found =
      let i_within : i < length I.sites = subst (λ n. n < length I.sites) found.2 (rank_within found.0 found.1) in
      let there = is_server I path i j i_within found.3 in
      let some : 0 < length (servers I path j) = omega (arith, there.1) in
      let few : length (servers I path j) ≤ 1 =
      one_passes allows (range_with_len 0 (length I.sites)) (places_rise (length I.sites)) i (λ k c allowed. let at = allowed_rank k (contained-place (length I.sites) k c) allowed in
      sym at.2 ∙ ap site_of (found.4 at.0 at.1 (ap allows at.2 ∙ allowed)) ∙ found.2) in
      (i_within, found.3, omega (arith, some, few))
