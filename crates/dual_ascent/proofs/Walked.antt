-- A customer's lanes in order, by place, as a walk over them uses them: each lane of the instance is there once, and costs rise.
use Rattle.std.proofs.Common.{◌≡◌, ℕ, ◌+◌, ◌<◌, inl, inr, List, map, length, All, Option, None, Some, get_or, refl, sym, ap, subst, ◌∙◌, arith, Bool, true, false}
use Rattle.std.specs.Prelude.{IsSome, ◌&&◌, not, is_some}
use Rattle.std.specs.List.{list_any}
use Rattle.std.specs.List.Sorted.{IsNonDecreasingBy}
use Rattle.std.proofs.lemmas.Bool.{false≢true, cases_lt}
use Rattle.std.proofs.lemmas.List.{get_or_default}
use Rattle.location_terms.specs.Instance.{Instance, IsValid, site_at, customer_at, lane}
use Rattle.location_terms.specs.Box.{Path, is_allowed, is_torn, is_closed, bars_lane, holds_demand}
use Rattle.lane_order.specs.declared.order.PlacedLane.{PlacedLane}
use Rattle.lane_order.specs.Order.{Order, IsOrderOf, lanes_to}
use Rattle.lane_order.specs.Placed.{named}
use Rattle.dual_ascent.specs.Walk.{IsLaneWalk}
use Rattle.dual_ascent.proofs.Sized.{cost_small}
use Rattle.lane_order.proofs.Walks.{site_within, placed_is_lane, lane_is_placed}

module _ (I : Instance) (valid : IsValid I) (order : Order) (of : IsOrderOf order I) (j : ℕ) (inside : j < length I.customers)
    (lanes : List PlacedLane) (exact : map (named order.sites) lanes ≡ lanes_to order j) (known : All (λ l. l.site < length order.sites) lanes) (rises : IsNonDecreasingBy (λ l. l.cost) lanes) where
  cost_of : (k : ℕ) (d : PlacedLane) → k < length lanes → lane I (site_at I (get_or lanes k d).site).id (customer_at I j).id ≡ Some (get_or lanes k d).cost
  cost_of k d b = placed_is_lane I order of j inside lanes exact known k d b

  placed : (o : Option ℕ) (i : ℕ) → i < length I.sites → lane I (site_at I i).id (customer_at I j).id ≡ o → IsSome o → (k : ℕ) × (k < length lanes) × ((d : PlacedLane) → (get_or lanes k d).site ≡ i)
  placed None i b e some = absurd (false≢true some)
  placed (Some cost) i b e some =
      let at = lane_is_placed I order of j inside lanes exact known valid.sites_named.rising i cost b e in
      (at.0, at.1, λ d. ap (λ (l : PlacedLane). l.site) (get_or_default lanes at.0 d _ at.1 ∙ at.2))

  pub walk_of : IsLaneWalk I j lanes
  walk_of =
      record {
        within = λ k d b. site_within I order of j inside lanes exact known k d b;
        is_lane = cost_of;
        small = λ k d b. cost_small I valid (get_or lanes k d).site j (get_or lanes k d).cost (cost_of k d b);
        rising = λ k m d below b. rises k m d below b;
        all = λ i b some. placed (lane I (site_at I i).id (customer_at I j).id) i b refl some;
      }

allowed_parts : (torn some closed barred holds : Bool) → (not torn && some && not closed && not barred && holds) ≡ true → (torn ≡ false) × (some ≡ true) × (closed ≡ false) × (barred ≡ false) × (holds ≡ true)
allowed_parts false true false false true e = (refl, refl, refl, refl, refl)
allowed_parts true some closed barred holds e = cc
allowed_parts false false closed barred holds e = cc
allowed_parts false true true barred holds e = cc
allowed_parts false true false true holds e = cc
allowed_parts false true false false false e = cc

-- what the lane between two places is, where it is allowed
pub lane_parts : (I : Instance) (path : Path) (i j : ℕ) → is_allowed I path (site_at I i) (customer_at I j) ≡ true
    → (is_torn I path ≡ false) × (is_some (lane I (site_at I i).id (customer_at I j).id) ≡ true) × (is_closed path (site_at I i) ≡ false) × (list_any (bars_lane (site_at I i).id (customer_at I j).id) path ≡ false) × (holds_demand (site_at I i).cap (customer_at I j).demand ≡ true)
lane_parts I path i j e =
    allowed_parts (is_torn I path) (is_some (lane I (site_at I i).id (customer_at I j).id)) (is_closed path (site_at I i)) (list_any (bars_lane (site_at I i).id (customer_at I j).id) path) (holds_demand (site_at I i).cap (customer_at I j).demand) e

some_value : (o : Option ℕ) → is_some o ≡ true → (x : ℕ) × (o ≡ Some x)
some_value None e = absurd (false≢true e)
some_value (Some x) e = (x, λ _. Some x)

-- it has a cost
pub allowed_has_lane : (I : Instance) (path : Path) (i j : ℕ) → is_allowed I path (site_at I i) (customer_at I j) ≡ true → (cost : ℕ) × (lane I (site_at I i).id (customer_at I j).id ≡ Some cost)
allowed_has_lane I path i j allowed = some_value (lane I (site_at I i).id (customer_at I j).id) (lane_parts I path i j allowed).1

-- a site with an allowed lane to the customer is among them
pub served_is_placed : (I : Instance) (path : Path) (j : ℕ) (lanes : List PlacedLane) → IsLaneWalk I j lanes → (i : ℕ) → i < length I.sites → is_allowed I path (site_at I i) (customer_at I j) ≡ true → (k : ℕ) × (k < length lanes) × ((d : PlacedLane) → (get_or lanes k d).site ≡ i)
served_is_placed I path j lanes walk i b allowed =
    walk.all i b (lane_parts I path i j allowed).1

-- the site is that of one of the first k lanes
abbrev pub IsPassed : List PlacedLane → ℕ → ℕ → Type 0
IsPassed lanes k i = (m : ℕ) × (m < k) × ((d : PlacedLane) → (get_or lanes m d).site ≡ i)

-- what holds of the sites of the first k lanes and of the next one
pub passed_more : (P : ℕ → Type 0) (lanes : List PlacedLane) (k : ℕ) (d : PlacedLane) → ((i : ℕ) → IsPassed lanes k i → P i) → P (get_or lanes k d).site → (i : ℕ) → IsPassed lanes (k + 1) i → P i
passed_more P lanes k d before here i (m, b, at) =
    elim (cases_lt m k) [
      | inl below ↦ before i (m, below, at)
      | inr past ↦ let last : k ≡ m = omega (arith, b, past) in subst P (ap (λ n. (get_or lanes n d).site) last ∙ at d) here
    ]

-- and one without a lane to it has no allowed one
pub unserved_barred : (I : Instance) (path : Path) (j i : ℕ) → lane I (site_at I i).id (customer_at I j).id ≡ None → is_allowed I path (site_at I i) (customer_at I j) ≡ true → ⊥
unserved_barred I path j i none allowed =
    false≢true (ap (λ (o : Option ℕ). is_some o) (sym none) ∙ (lane_parts I path i j allowed).1)
