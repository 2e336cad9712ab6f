-- How far one cost may move while a plan stays proved optimal by the tree that proves it now.
use Rattle.std.specs.Prelude.{ℕ, ◌≤◌, Some, IsNone, IsSome, Contains}
use Rattle.location_terms.specs.declared.claim.Claim.TheVariants.{Optimal}
use Rattle.location_terms.specs.declared.limits.TheConstants.{MAX_AMOUNT}
use Rattle.location_terms.specs.Instance.{Instance, site_ids, customer_ids, lane}
use Rattle.location_terms.specs.Plan.{Plan, cost_of}
use Rattle.location_terms.specs.Tree.{Tree}
use Rattle.location_terms.specs.Certificate.{IsAccepted}
use Rattle.range_scan.specs.declared.range.Range.{Range}
use Rattle.range_scan.specs.declared.refusal.RangeRefusal.{RangeRefusal}
use Rattle.range_scan.specs.declared.refusal.RangeRefusal.TheVariants.{NoSite, NoCustomer, NoLane, NoMemory}

-- the tree proves the plan optimal: the certificate is accepted that claims the plan's cost in this instance as the optimum
abbrev pub IsProvedOptimal : Instance → Tree → Plan → Type 0
IsProvedOptimal I t P = IsAccepted I (record { claim = Optimal (cost_of I P); plan = Some P; tree = t })

-- the amount is one of the range, whose ends belong to it
abbrev pub IsInRange : Range → ℕ → Type 0
IsInRange r x = (r.least ≤ x) × (x ≤ r.greatest)

-- A range of amounts that has the present cost in it, and at each of whose amounts the tree proves the plan optimal: priced x is the instance
-- in which the one cost is x.
pub record IsProvedRange (priced : ℕ → Instance) (present : ℕ) (t : Tree) (P : Plan) (r : Range) : Type 0 where
  pub amounts : r.greatest ≤ MAX_AMOUNT
  pub has_present : IsInRange r present
  pub proved : (x : ℕ) → IsInRange r x → IsProvedOptimal (priced x) t P

-- the range of the cost: the greatest of these
pub record IsCostRange (priced : ℕ → Instance) (present : ℕ) (t : Tree) (P : Plan) (r : Range) : Type 0 where
  pub range : IsProvedRange priced present t P r
  pub greatest : (other : Range) → IsProvedRange priced present t P other → (r.least ≤ other.least) × (other.greatest ≤ r.greatest)

-- why a range of a fixed cost is refused; memory may run out only where there is one
abbrev pub IsFixedRefusal : Instance → ℕ → RangeRefusal → Type 0
IsFixedRefusal I s NoSite = Contains (site_ids I) s → ⊥
IsFixedRefusal I s NoCustomer = ⊥
IsFixedRefusal I s NoLane = ⊥
IsFixedRefusal I s NoMemory = Contains (site_ids I) s

-- why a range of a lane's cost is refused: the first of these that isn't in the instance; memory may run out only where there is one
abbrev pub IsLaneRefusal : Instance → ℕ → ℕ → RangeRefusal → Type 0
IsLaneRefusal I s c NoSite = Contains (site_ids I) s → ⊥
IsLaneRefusal I s c NoCustomer = Contains (site_ids I) s × (Contains (customer_ids I) c → ⊥)
IsLaneRefusal I s c NoLane = Contains (site_ids I) s × Contains (customer_ids I) c × IsNone (lane I s c)
IsLaneRefusal I s c NoMemory = IsSome (lane I s c)
