use Rattle.std.proofs.Common.{◌+◌, arith, sym, subst}
use Rattle.std.specs.Prelude.{IfSome}
use Rattle.tree_search.specs.Working.{IsGrownPart}
use Rattle.tree_search.proofs.LeafPlaces.{some_node}
use Rattle.tree_search.proofs.growing.grow_at.Goals as goal

pub overflow_sub-made : goal.overflow_sub-made
overflow_sub-made g c = omega (arith, some_node c.in_ok-growth.growth.tree.root, c.nodes-made.ensures)

pub returns-clause-grown : goal.returns-clause-grown
returns-clause-grown g c =
    let part = c.in_ok-growth.growth.tree in
    record {
      part = part;
      now = c.in_ok-give.ensures;
      count = omega (arith, some_node part.root, c.nodes-made.ensures);
      grown =
          subst (λ o. IfSome o (λ l. IsGrownPart c.args.search.now.best.instance l.0 l.1 c.args.search.now.best.plan c.grow_leaf.new.search.best.plan (c.args.budget + 1) part))
          (sym c.leaf.ensures) c.in_ok-growth.ensures.grown;
    }
