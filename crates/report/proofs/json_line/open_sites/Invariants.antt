use Rattle.std.proofs.Common.{◌≡◌, map, take}
use Rattle.serde_json.specs.View.{view}
use Rattle.report.specs.Values.{open_data}
use Rattle.report.proofs.json_line.open_sites.Given as goal

abbrev pub invariant-loop-k : goal.invariant-loop-k
invariant-loop-k l = map view l.sites.items ≡ map (open_data l.inst l.plan) (take l.k l.plan.sites)
