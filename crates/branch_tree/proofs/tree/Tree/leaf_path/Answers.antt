use Rattle.std.proofs.Common.{◌<◌, ap, sym, subst, ◌∙◌, take, Some, []}
use Rattle.std.specs.Prelude.{count_by, fold}
use Rattle.branch_tree.specs.Leaf.{is_end}
use Rattle.branch_tree.specs.Walk.{passed}
use Rattle.branch_tree.proofs.Found.{stored_count, stored_by}
use Rattle.branch_tree.proofs.tree.Tree.leaf_path.Goals as goal

pub leaf_place-place-requires : goal.leaf_place-place-requires
leaf_place-place-requires c =
    subst (λ n. c.args.k < count_by is_end n) (sym c.deref.ensures.value)
    (stored_count c.self.invariant c.args.self.now c.self.view_is c.args.k c.requires)

pub returns : goal.returns
returns c =
    stored_by c.self.invariant c.args.self.now c.self.view_is (λ path. path) c.args.k c.leaf_place-place.result c.deref.result.now c.deref.ensures.value c.leaf_place-place.ensures.within c.leaf_place-place.ensures.leaf c.leaf_place-place.ensures.before
    ∙ ap (λ xs. Some (fold passed [] (take c.leaf_place-place.result xs))) (c.deref.ensures.value ∙ sym c.deref-2.ensures.value)
    ∙ ap Some (sym c.in_ok-path.ensures)
