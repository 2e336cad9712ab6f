use Rattle.std.proofs.Common.{◌≡◌, ◌++◌, flat_map, take}
use Rattle.report.specs.SiteTable.{table_line}
use Rattle.report.proofs.table.push_sites.Given as goal

abbrev pub invariant-loop-k : goal.invariant-loop-k
invariant-loop-k l = l.text.items ≡ l.fn.text.items ++ flat_map (table_line l.inst l.plan) (take l.k l.plan.sites)
