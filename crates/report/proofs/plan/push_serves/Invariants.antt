use Rattle.std.proofs.Common.{◌≡◌, ◌++◌, flat_map, take}
use Rattle.report.specs.PlanText.{serve_line}
use Rattle.report.proofs.plan.push_serves.Given as goal

abbrev pub invariant-loop-k : goal.invariant-loop-k
invariant-loop-k l = l.text.items ≡ l.fn.text.items ++ flat_map (serve_line l.inst) (take l.k l.plan.serves)
