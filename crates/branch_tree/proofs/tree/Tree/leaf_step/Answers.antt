use Rattle.std.proofs.Common.{◌≡◌, ◌<◌, ap, sym, subst, ◌∙◌, take, Some, [], length, map}
use Rattle.std.specs.Prelude.{count_by, fold, slice_get, IfSome}
use Rattle.location_terms.specs.Tree.{leaves_of}
use Rattle.branch_tree.specs.Leaf.{is_end}
use Rattle.branch_tree.specs.Walk.{passed}
use Rattle.branch_tree.proofs.Found.{stored_count, stored_by}
use Rattle.branch_tree.proofs.tree.Tree.leaf_step.Goals as goal

pub leaf_place-place-requires : goal.leaf_place-place-requires
leaf_place-place-requires c =
    subst (λ n. c.args.k < count_by is_end n) (sym c.deref.ensures.value)
    (stored_count c.self.invariant c.args.self.now c.self.view_is c.args.k c.requires.leaf)

pub step_after-requires : goal.step_after-requires
step_after-requires c =
    let depth : slice_get (map (λ l. length l.0) (leaves_of c.args.self.now)) c.args.k ≡ Some (length (fold passed [] (take c.leaf_place-place.result c.deref-2.result.now))) =
    stored_by c.self.invariant c.args.self.now c.self.view_is length c.args.k c.leaf_place-place.result c.deref.result.now c.deref.ensures.value c.leaf_place-place.ensures.within c.leaf_place-place.ensures.leaf c.leaf_place-place.ensures.before
    ∙ ap (λ xs. Some (length (fold passed [] (take c.leaf_place-place.result xs)))) (c.deref.ensures.value ∙ sym c.deref-2.ensures.value) in
    subst (λ o. IfSome o (λ d. c.args.at < d)) depth c.requires.step

pub returns : goal.returns
returns c =
    stored_by c.self.invariant c.args.self.now c.self.view_is (λ path. slice_get path c.args.at) c.args.k c.leaf_place-place.result c.deref.result.now c.deref.ensures.value c.leaf_place-place.ensures.within c.leaf_place-place.ensures.leaf c.leaf_place-place.ensures.before
    ∙ ap (λ xs. Some (slice_get (fold passed [] (take c.leaf_place-place.result xs)) c.args.at)) (c.deref.ensures.value ∙ sym c.deref-2.ensures.value)
    ∙ ap Some c.step_after.ensures
