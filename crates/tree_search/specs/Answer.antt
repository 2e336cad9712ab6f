-- What a search may start from, and what it answers.
use Rattle.std.specs.Prelude.{◌≡◌, ◌⊎◌, ℕ, ◌+◌, ◌*◌, ◌<◌, ◌≤◌, Bool, IsTrue, List, length, All, Contains, Option, None, Some, option_map, IfSome, IsSome, ◌↔◌, slice_get, if◌then◌else◌}
use Rattle.location_terms.specs.declared.claim.Claim.{Claim}
use Rattle.location_terms.specs.declared.claim.Claim.TheVariants as claims
use Rattle.location_terms.specs.Instance.{Instance}
use Rattle.location_terms.specs.Plan.{Plan, IsFeasible, cost_of}
use Rattle.location_terms.specs.Box.{Path}
use Rattle.location_terms.specs.Bound.{Duals}
use Rattle.location_terms.specs.Leaf.{LeafFits, LeafCloses}
use Rattle.location_terms.specs.Tree.{Tree, StandsOn, leaves_of, nodes_of, low_of}
use Rattle.location_terms.specs.Certificate.{Certificate, IsAccepted}
use Rattle.plan_search.specs.InBox.{HasNoCaps, IsNoWorse}
use Rattle.tree_search.specs.Made.{has_cap}
use Rattle.tree_search.specs.Grown.{IsGrownFrom, PlansWereSought}
use Rattle.branch_tree.specs.declared.limits.TheConstants.{MAX_TREE_NUMBERS}
use Rattle.tree_search.specs.declared.answer.Answer.{Answer}
use Rattle.tree_search.specs.declared.answer.Answer.TheVariants.{Optimal, Infeasible, Bracket}

-- The start.

-- a tree of twice so many nodes is within the limit for this instance
abbrev pub IsWithin : Instance → ℕ → Type 0
IsWithin I nodes = 2 * nodes * (length I.sites + length I.customers) ≤ MAX_TREE_NUMBERS

-- the cost of a plan, where there is one
abbrev pub cost_in : Instance → Option Plan → Option ℕ
cost_in I plan = option_map (cost_of I) plan

-- any number of sites may be open
pub record HasFreeCount (I : Instance) : Type 0 where
  pub lo : I.lo ≡ 0
  pub hi : length I.sites ≤ I.hi

-- how many decisions the splits above a leaf take at most: one for each site and, where some site has a capacity, one for each lane
abbrev pub most_decisions : Instance → ℕ
most_decisions I = if has_cap I then length I.sites + length I.sites * length I.customers else length I.sites

-- the list says of each leaf, in preorder, whether it closes against the target, or, where there is no target, without one
pub record AreHeld (I : Instance) (t : Tree) (target : Option ℕ) (held : List Bool) : Type 0 where
  pub len : length held ≡ length (leaves_of t)
  pub each : (k : ℕ) → IfSome (slice_get held k) (λ h. IfSome (slice_get (leaves_of t) k) (λ l. IsTrue h ↔ LeafCloses I l.0 l.1 target))

-- A search may start from this tree and handed plan, with this budget; the list says which leaves close against the plan's cost. That the
-- instance is valid and the tree well formed is part of their types.
pub record IsSearchStart (I : Instance) (old : Tree) (held : List Bool) (handed : Option Plan) (budget : ℕ) : Type 0 where
  pub stands : StandsOn old I
  pub fit : All (λ l. LeafFits I l.1) (leaves_of old)
  pub few : IsWithin I (nodes_of old) ⊎ (nodes_of old ≡ 1)
  pub feasible : IfSome handed (IsFeasible I)
  pub each_told : AreHeld I old (cost_in I handed) held
  pub within : IsWithin I budget

-- The answer.

abbrev pub plan_in : Answer → Option Plan
plan_in (Optimal plan cost tree made) = Some plan
plan_in (Infeasible tree made) = None
plan_in (Bracket low plan tree made) = plan

abbrev pub tree_in : Answer → Tree
tree_in (Optimal plan cost tree made) = tree
tree_in (Infeasible tree made) = tree
tree_in (Bracket low plan tree made) = tree

-- how many nodes its splits made
abbrev pub made_in : Answer → ℕ
made_in (Optimal plan cost tree made) = made
made_in (Infeasible tree made) = made
made_in (Bracket low plan tree made) = made

-- the search came to an end
abbrev pub IsDecided : Answer → Type 0
IsDecided (Optimal plan cost tree made) = Unit {0}
IsDecided (Infeasible tree made) = Unit {0}
IsDecided (Bracket low plan tree made) = ⊥

abbrev pub claim_in : Instance → Answer → Claim
claim_in I (Optimal plan cost tree made) = claims.Optimal cost
claim_in I (Infeasible tree made) = claims.Infeasible
claim_in I (Bracket low plan tree made) = claims.Bracket low (cost_in I plan)

abbrev pub certificate_in : Instance → Answer → Certificate
certificate_in I a = record { claim = claim_in I a; plan = plan_in a; tree = tree_in a }

-- some leaf of the tree is open: it doesn't close against the plan's cost or, where there is no plan, without a target
pub record HasOpenLeaf (I : Instance) (t : Tree) (plan : Option Plan) : Type 0 where
  pub path : Path
  pub duals : Duals
  pub leaf : Contains (leaves_of t) (path, duals)
  pub unclosed : LeafCloses I path duals (cost_in I plan) → ⊥

-- Why a search ends with a bracket: a leaf is open, and another split, which makes two nodes, would bring the nodes made above the
-- budget. It has no plan only where capacities or the number of open sites may forbid one.
pub record IsBracketCause (I : Instance) (budget low : ℕ) (plan : Option Plan) (tree : Tree) (made : ℕ) : Type 0 where
  pub spent : budget < made + 2
  pub unfinished : HasOpenLeaf I tree plan
  pub shown : low ≡ low_of I tree
  pub planless : HasNoCaps I → HasFreeCount I → IsSome plan

abbrev pub IsCauseOf : Instance → ℕ → Answer → Type 0
IsCauseOf I budget (Optimal plan cost tree made) = Unit {0}
IsCauseOf I budget (Infeasible tree made) = Unit {0}
IsCauseOf I budget (Bracket low plan tree made) = IsBracketCause I budget low plan tree made

-- What a search from this tree and plan answers with this budget. That its certificate is accepted means: a plan that is there is feasible
-- and costs what is claimed; no feasible plan costs less than an optimal plan's cost or a bracket's low end; and where the claim is
-- infeasible there is no feasible plan.
pub record IsAnswerTo (I : Instance) (old : Tree) (handed : Option Plan) (budget : ℕ) (a : Answer) : Type 0 where
  -- the tree is the handed one, with each leaf that doesn't close against the handed plan's cost replaced
  pub grown : IsGrownFrom I (cost_in I handed) (cost_in I (plan_in a)) old (tree_in a)
  pub sought : PlansWereSought I (tree_in a) (plan_in a)
  -- a handed plan is never lost
  pub kept : IsNoWorse I (plan_in a) handed
  pub accepted : IsAccepted I (certificate_in I a)
  pub made : nodes_of (tree_in a) ≡ nodes_of old + made_in a
  -- no more nodes were made than the budget allows
  pub within : made_in a ≤ budget
  pub cause : IsCauseOf I budget a
