use Rattle.std.proofs.Common.{◌∙◌, sym, subst}
use Rattle.location_terms.specs.Instance.{Instance}
use Rattle.lane_order.specs.Order.{IsOrderOf}
use Rattle.tree_search.specs.Making.{IsMakerFor}
use Rattle.tree_search.proofs.search.Search.of.Goals as goal

pub invariant_of-result : goal.invariant_of-result
invariant_of-result c =
    let same = c.of-incumbent.ensures.instance in
    record {
      order = subst (IsOrderOf c.args.order.now) (sym same) c.requires.order;
      maker = subst (λ (J : Instance). IsMakerFor J c.in_ok-leaf.leaf) (sym same) c.in_ok-leaf.ensures;
      bounds = c.by_order-bounds.ensures ∙ sym same;
    }
