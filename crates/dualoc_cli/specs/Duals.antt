-- The command `duals`: the duals to which an ascent raises zeros.
use Rattle.std.specs.Prelude.{ℕ, ◌<◌, [], length, pos, ◌≤ℤ◌}
use Rattle.location_terms.specs.Instance.{Instance}
use Rattle.location_terms.specs.Plan.{Plan, IsFeasible, cost_of}
use Rattle.location_terms.specs.Bound.{Duals, v_at, slack_of, bound_of}
use Rattle.dual_value.specs.Zeros.{zeros}
use Rattle.dual_ascent.specs.Ascent.{IsAscended, IsBlocked}
use Rattle.dualoc_cli.specs.Command.{ShowDuals}
use Rattle.dualoc_cli.specs.Run.{Run, HasTask}

-- The duals are those to which the ascent raises zeros, at scale 1 and where nothing is decided yet, of the instance whose duals are asked for.
-- There is just one such ascent (the law `ascents` of dual_ascent), so this says what each number of their text is. What follows is said beside it:
-- raising one customer's dual alone gains nothing, no number is below 0, and no feasible plan costs less than the bound.
pub record IsRaised (r : Run) (I : Instance) (d : Duals) : Type 0 where
  pub task : HasTask r ShowDuals I
  pub ascended : IsAscended I [] (zeros I 1) d
  pub blocked : IsBlocked I [] d
  pub values : (j : ℕ) → j < length I.customers → pos 0 ≤ℤ v_at d j
  pub slacks : (i : ℕ) → i < length I.sites → pos 0 ≤ℤ slack_of I [] d i
  pub bound : pos 0 ≤ℤ bound_of I [] d
  pub low_end : (P : Plan) → IsFeasible I P → bound_of I [] d ≤ℤ pos (cost_of I P)
