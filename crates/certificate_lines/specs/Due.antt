-- Which line of a certificate's text is due, and what a line shows.
use Rattle.std.specs.Prelude.{◌≡◌, ℕ, ◌≤◌, List, [], length, All, Option, None, Some, is_some, ℤ, unsigned_abs, if◌then◌else◌}
use Rattle.std.specs.List.Sorted.{IsStrictlyIncreasing}
use Rattle.location_terms.specs.declared.claim.Claim.{Claim}
use Rattle.location_terms.specs.declared.split.Split.{Split}
use Rattle.location_terms.specs.declared.limits.TheConstants.{MAX_SCALE, MAX_VALUE}
use Rattle.location_terms.specs.Instance.{Instance}
use Rattle.location_terms.specs.Plan.{Plan}
use Rattle.location_terms.specs.Box.{Path}
use Rattle.location_terms.specs.Bound.{Duals}
use Rattle.location_terms.specs.Certificate.{cost_claimed}
use Rattle.branch_tree.specs.Walk.{turned}

-- The line that is due, with what the lines before it say. A node is due at a path, and once the tree is whole the end is.
pub data Due : Type 0 where
  HeaderDue SizesDue MustOpenDue MustClosedDue ClaimDue : Due
  OpenDue : Claim → Due
  ServeDue : Claim → (sites : List ℕ) → Due
  NodeDue : Claim → Path → Due
  ValuesDue : Claim → Path → (q : ℕ) → (nu : ℤ) → Due
  PricesDue : Claim → Path → (q : ℕ) → (nu : ℤ) → (v : List ℤ) → Due
  EndDue NothingDue : Claim → Due

-- what there is to judge once a line is read: a plan for its claim, or a leaf; a split is told too
pub data Shown : Type 0 where
  NothingShown : Shown
  PlanShown : Claim → Plan → Shown
  SplitShown : Split → Shown
  LeafShown : Claim → Path → Duals → Shown

-- what is due behind the claim: a plan where the claim has a cost to show, else the tree
abbrev pub behind_claim : Claim → Due
behind_claim claim = if is_some (cost_claimed claim) then OpenDue claim else NodeDue claim []

-- what is due where a tree below a path is whole: the node at the next path that is left, or the end where none is
abbrev pub node_or_end : Claim → Option Path → Due
node_or_end claim (Some path) = NodeDue claim path
node_or_end claim None = EndDue claim

abbrev pub behind_leaf : Claim → Path → Due
behind_leaf claim path = node_or_end claim (turned path)

-- the numbers that the lines before gave are within their limits, there are as many as the instance asks for, and open sites stand in the order of their ids
abbrev pub Suits : Instance → Due → Type 0
Suits I (ServeDue claim sites) = IsStrictlyIncreasing sites
Suits I (ValuesDue claim path q nu) = (q ≤ MAX_SCALE) × (unsigned_abs nu ≤ MAX_VALUE)
Suits I (PricesDue claim path q nu v) = (q ≤ MAX_SCALE) × (unsigned_abs nu ≤ MAX_VALUE) × (length v ≡ length I.customers) × All (λ x. unsigned_abs x ≤ MAX_VALUE) v
Suits I due = Unit {0}
