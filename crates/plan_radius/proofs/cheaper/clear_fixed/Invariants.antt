use Rattle.plan_radius.specs.Clearing.{ArePartlyCostless}
use Rattle.plan_radius.proofs.cheaper.clear_fixed.Given as goal

-- the sites so far cost nothing to open
abbrev pub invariant-loop-site : goal.invariant-loop-site
invariant-loop-site l = ArePartlyCostless l.site l.initial.inst l.inst
