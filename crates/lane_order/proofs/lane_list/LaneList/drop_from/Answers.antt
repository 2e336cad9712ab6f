use Rattle.std.proofs.Common.{rules, filter, ap, ◌∙◌}
use Rattle.std.proofs.lemmas.Fn.{filter_same}
use Rattle.lane_order.specs.Listed.{Listed, is_elsewhere}
use Rattle.lane_order.proofs.lane_list.LaneList.drop_from.Goals as goal

pub returns-clause-lanes : goal.returns-clause-lanes
returns-clause-lanes c = filter_same _ (is_elsewhere c.args.place) _ (λ x b q k. (search rules, search rules)) _ _ c.retain.ensures.filtered ∙ ap (λ (l : Listed). filter (is_elsewhere c.args.place) l.lanes) c.self.view_is
