use Rattle.std.proofs.Common.{◌≡◌, ◌++◌, flat_map, take}
use Rattle.report.specs.PlanText.{site_line}
use Rattle.report.proofs.plan.push_sites.Given as goal

abbrev pub invariant-loop-k : goal.invariant-loop-k
invariant-loop-k l = l.text.items ≡ l.fn.text.items ++ flat_map (site_line l.inst) (take l.k l.plan.sites)
