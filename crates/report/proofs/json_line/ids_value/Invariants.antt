use Rattle.std.proofs.Common.{◌≡◌, map, take}
use Rattle.serde_json.specs.Data.{number, unsigned}
use Rattle.serde_json.specs.View.{view, items_view, items_of}
use Rattle.report.proofs.json_line.ids_value.Given as goal

abbrev pub invariant-loop-cust : goal.invariant-loop-cust
invariant-loop-cust l = map view l.ids.items ≡ map (λ n. number (unsigned n)) (take l.cust-index l.custs)
