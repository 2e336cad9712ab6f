-- For private functions alone: no public contract cites this page.
-- By how much the bounds of leaves fall short of a cost, and the range that follows.
use Rattle.std.specs.Prelude.{ℕ, ◌+◌, ◌-◌, ◌*◌, ◌≤◌, ◌↔◌, Bool, true, false, List, All, pos, ◌+ℤ◌, ◌<ℤ◌}
use Rattle.location_terms.specs.declared.limits.TheConstants.{MAX_AMOUNT}
use Rattle.location_terms.specs.Instance.{Instance}
use Rattle.location_terms.specs.Box.{Path}
use Rattle.location_terms.specs.Bound.{Duals}
use Rattle.location_terms.specs.Leaf.{leaf_bound}
use Rattle.location_terms.specs.Plan.{Plan, cost_of}
use Rattle.location_terms.specs.Tree.{Tree, leaves_of}
use Rattle.instance_store.specs.Changes.{with_fixed}
use Rattle.range_scan.specs.Prices.{with_lane_costing}
use Rattle.range_scan.specs.declared.range.Range.{Range}

-- were its bound greater by w, in its scale, the leaf would close against the cost; at scale 0 it speaks of no cost
abbrev pub LacksAtMost : Instance → ℕ → ℕ → Path × Duals → Type 0
LacksAtMost I cost w l = 1 ≤ l.1.q → pos (l.1.q * cost) <ℤ (leaf_bound I l.0 l.1 +ℤ pos (l.1.q * (w + 1)))

-- the number is the least by which all the leaves lack at most
abbrev pub IsLack : Instance → ℕ → List (Path × Duals) → ℕ → Type 0
IsLack I cost leaves lack = (w : ℕ) → (lack ≤ w) ↔ All (LacksAtMost I cost w) leaves

-- the leaves of the tree lack so much against what the plan costs, where the site costs so much to open
abbrev pub IsFixedLack : Instance → Tree → Plan → ℕ → ℕ → ℕ → Type 0
IsFixedLack I t P s x lack = IsLack (with_fixed I s x) (cost_of (with_fixed I s x) P) (leaves_of t) lack

-- and where the lane costs so much
abbrev pub IsLaneLack : Instance → Tree → Plan → ℕ → ℕ → ℕ → ℕ → Type 0
IsLaneLack I t P s c x lack = IsLack (with_lane_costing I s c x) (cost_of (with_lane_costing I s c x) P) (leaves_of t) lack

-- how far a cost may move at most: up where the plan pays it, down where it doesn't
abbrev pub far_end : Bool → ℕ
far_end true = MAX_AMOUNT
far_end false = 0

-- the range, where leaves lack so much with the cost at its far end
abbrev pub range_short : Bool → ℕ → Range
range_short true lack = record { least = 0; greatest = MAX_AMOUNT - lack }
range_short false lack = record { least = lack; greatest = MAX_AMOUNT }
