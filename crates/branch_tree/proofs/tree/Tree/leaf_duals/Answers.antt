use Rattle.std.proofs.Common.{◌≡◌, ◌<◌, ap, sym, subst, ◌∙◌, length, take, option_map}
use Rattle.std.specs.Prelude.{count_by}
use Rattle.std.proofs.lemmas.Option.{slice_get-map}
use Rattle.location_terms.specs.Tree.{leaves_of}
use Rattle.branch_tree.specs.Leaf.{is_end}
use Rattle.branch_tree.proofs.Found.{stored_count, stored_leaf, end_at}
use Rattle.branch_tree.proofs.tree.Tree.leaf_duals.Goals as goal

pub leaf_place-place-requires : goal.leaf_place-place-requires
leaf_place-place-requires c =
    subst (λ n. c.args.k < count_by is_end n) (sym c.deref.ensures.value)
    (stored_count c.self.invariant c.args.self.now c.self.view_is c.args.k c.requires)

pub returns : goal.returns
returns c =
    let n = c.self.inside.nodes.items in
    let p = c.leaf_place-place.result in
    let within : p < length n = subst (λ xs. p < length xs) c.deref.ensures.value c.leaf_place-place.ensures.within in
    let before : count_by is_end (take p n) ≡ c.args.k = subst (λ xs. count_by is_end (take p xs) ≡ c.args.k) c.deref.ensures.value c.leaf_place-place.ensures.before in
    slice_get-map (λ l. l.1) (leaves_of c.args.self.now) c.args.k
    ∙ ap (option_map (λ l. l.1)) (stored_leaf c.self.invariant c.args.self.now c.self.view_is c.args.k p c.in-End.duals (end_at n p c.index.result.now c.in-End.duals within c.index.ensures c.in-End.is) before)
