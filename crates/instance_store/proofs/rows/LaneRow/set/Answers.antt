use Rattle.std.proofs.Common.{set, ◌∙◌}
use Rattle.std.proofs.lemmas.List.{map-set}
use Rattle.instance_store.specs.Lanes.{lane_in}
use Rattle.instance_store.proofs.rows.LaneRow.set.Goals as goal

pub returns : goal.returns
returns c = map-set lane_in c.self.inside.costs.items c.args.k c.stored.result ∙ (λ i. set (c.self.view_is i) c.args.k (c.stored.ensures i))
