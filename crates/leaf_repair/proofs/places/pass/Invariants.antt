use Rattle.std.proofs.Common.{◌<◌, ◌≤◌, ◌-◌, length, take}
use Rattle.std.specs.Prelude.{All}
use Rattle.leaf_repair.proofs.places.pass.Given as goal

abbrev pub invariant-loop-at : goal.invariant-loop-at
invariant-loop-at l = record {
  within : l.at ≤ length l.before;
  less : All (λ x. x < l.id) (take l.at l.before);
}

abbrev pub decreases-loop-at : goal.decreases-loop-at
decreases-loop-at l = length l.before - l.at
