use Rattle.std.proofs.Common.{insert, map, ap, ◌∙◌}
use Rattle.indexmap.proofs.SetLemmas.{map-insert}
use Rattle.instance_store.specs.Lanes.{lane_in}
use Rattle.instance_store.proofs.rows.LaneRow.insert.Goals as goal

pub returns-clause-inserted : goal.returns-clause-inserted
returns-clause-inserted c =
    ap (map lane_in) c.in_ok-insert.ensures.items ∙ map-insert lane_in c.self.inside.costs.items c.args.k c.stored.result ∙ (λ i. insert (c.self.view_is i) c.args.k (c.stored.ensures i))
