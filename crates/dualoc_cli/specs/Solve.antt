-- The short form of `solve`: a walk over all sets of sites.
use Rattle.std.specs.Prelude.{◌≡◌, ℕ, ◌<◌, ◌≤◌, length}
use Rattle.location_terms.specs.Instance.{Instance}
use Rattle.location_terms.specs.Plan.{Plan, cost_of}
use Rattle.location_terms.specs.Optimal.{IsOptimal}
use Rattle.set_walk.specs.declared.TheConstants.{MAX_WALK_SITES}
use Rattle.dualoc_cli.specs.Command.{SolveShort}
use Rattle.dualoc_cli.specs.Run.{Run, HasTask}

-- an instance that is to be solved has more sites than the walk over all sets of sites takes
pub record HasManySites (r : Run) : Type 0 where
  pub instance : Instance
  pub task : HasTask r SolveShort instance
  pub many : MAX_WALK_SITES < length instance.sites

-- the plan is optimal for the instance that is to be solved, and this is its cost
pub record IsSolved (r : Run) (I : Instance) (P : Plan) (cost : ℕ) : Type 0 where
  pub task : HasTask r SolveShort I
  pub few : length I.sites ≤ MAX_WALK_SITES
  pub optimal : IsOptimal I P
  pub costs : cost ≡ cost_of I P
