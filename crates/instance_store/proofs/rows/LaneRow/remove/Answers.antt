use Rattle.std.proofs.Common.{List, Option, ℕ, remove, map, ap, ◌∙◌}
use Rattle.indexmap.proofs.SetLemmas.{map-remove}
use Rattle.instance_store.specs.Lanes.{lane_in}
use Rattle.instance_store.proofs.rows.LaneRow.remove.Goals as goal

pub returns-clause-rest : goal.returns-clause-rest
returns-clause-rest c = ap (map lane_in) c.remove.ensures.items ∙ map-remove lane_in c.self.inside.costs.items c.args.k ∙ ap (λ (row : List (Option ℕ)). remove row c.args.k) c.self.view_is
