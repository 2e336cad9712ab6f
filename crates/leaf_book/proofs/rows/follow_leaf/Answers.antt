use Rattle.std.proofs.Common.{◌≡◌, sym, ap, subst, ◌∙◌, Some}
use Rattle.location_terms.specs.Box.{Path}
use Rattle.location_terms.specs.Bound.{Duals}
use Rattle.leaf_book.specs.Sums.{sums_of}
use Rattle.leaf_book.specs.Due.{IsDue}
use Rattle.leaf_book.specs.Kept.{carried_sums}
use Rattle.leaf_book.proofs.SeenNumbers.{seen_is, seen_fits}
use Rattle.leaf_book.proofs.rows.follow_leaf.Goals as goal

pub follow-requires-clause-fit : goal.follow-requires-clause-fit
follow-requires-clause-fit c =
    let x = c.args.course.now in
    seen_fits x.inst.now x.tree.now c.requires.course.tree c.args.place.now.node c.duals_there.result.now c.duals_there.ensures x.sites.now x.custs.now c.requires.course.sites c.requires.course.customers

pub follow-requires-clause-due : goal.follow-requires-clause-due
follow-requires-clause-due c =
    let x = c.args.course.now in
    let same = seen_is x.inst.now x.tree.now c.requires.course.tree c.args.place.now.node c.duals_there.result.now c.duals_there.ensures x.sites.now x.custs.now c.requires.course.sites c.requires.course.customers in
    subst (λ (l : Path × Duals). IsDue x.change x.count.0 x.count.1 x.inst.now l.0 l.1 c.args.row.now) (λ k. (sym c.deref.ensures k, sym same k)) (c.requires.due c.duals_there.result.now c.duals_there.ensures)

pub returns-clause-sums : goal.returns-clause-sums
returns-clause-sums c = λ d there.
    let x = c.args.course.now in
    let same = seen_is x.inst.now x.tree.now c.requires.course.tree c.args.place.now.node c.duals_there.result.now c.duals_there.ensures x.sites.now x.custs.now c.requires.course.sites c.requires.course.customers in
    let one : c.duals_there.result.now ≡ d = (let h : Some c.duals_there.result.now ≡ Some d = sym c.duals_there.ensures ∙ there in cc) in
    c.follow.ensures.sums ∙ (λ k. sums_of x.inst.now (c.deref.ensures k, same k)) ∙ ap (λ (e : Duals). carried_sums x.inst.now x.tree.now (c.args.place.now.path, e)) one
