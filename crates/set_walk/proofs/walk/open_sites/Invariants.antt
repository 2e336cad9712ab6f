use Rattle.std.proofs.Common.{◌≡◌}
use Rattle.set_walk.proofs.Steps.{opened_before}
use Rattle.set_walk.proofs.walk.open_sites.Given as goal

abbrev pub invariant-loop-place : goal.invariant-loop-place
invariant-loop-place l = l.sites.items ≡ opened_before l.inst l.set.bits l.place
