use Rattle.std.proofs.Common.{ℕ, List, [], length, slice_index_or, sym, ap, subst, ◌∙◌}
use Rattle.location_terms.specs.Instance.{customer_at}
use Rattle.lane_order.specs.Order.{AreLanesTo}
use Rattle.instance_edits.proofs.orders.make_room.Goals as goal

pub returns-clause-same : goal.returns-clause-same
returns-clause-same c = λ I of. record {
  same_sites = c.reserve.ensures.sites ∙ of.same_sites;
  same_count = ap (λ (ls : List (List (ℕ × ℕ))). length ls) c.reserve.ensures.lanes ∙ of.same_count;
  each = λ j b. subst (λ (ls : List (List (ℕ × ℕ))). AreLanesTo I (customer_at I j).id (slice_index_or ls j [])) (sym c.reserve.ensures.lanes) (of.each j b);
}
