use Rattle.std.proofs.Common.{◌-◌}
use Rattle.center_solve.specs.Probing.{IsKnownSoFar}
use Rattle.center_solve.proofs.known.narrowed.Given as goal

abbrev pub invariant-probes : goal.invariant-probes
invariant-probes l = IsKnownSoFar l.inst l.budget l.known

-- how far the two ends are apart
abbrev pub decreases-probes : goal.decreases-probes
decreases-probes l = l.known.radius - l.known.low
