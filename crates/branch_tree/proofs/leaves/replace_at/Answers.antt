use Rattle.std.proofs.Common.{◌≡◌, ◌+◌, sym, ap, ◌∙◌, arith, length, map}
use Rattle.std.specs.List.{splice}
use Rattle.std.specs.Vec.{vec_len}
use Rattle.std.proofs.lemmas.List.{map-id}
use Rattle.std.proofs.lemmas.Iterator.{items_from_drains}
use Rattle.std.proofs.lemmas.Iterator.Adapters.{YieldsList-from_vec}
use Rattle.branch_tree.proofs.leaves.replace_at.Goals as goal

pub returns-clause-ok : goal.returns-clause-ok
returns-clause-ok c =
    let i = c.in_ok-splice.ensures.items in
    let long : vec_len c.args.part ≡ length c.args.part.items = omega arith in
    let came : map (λ e. e) i.1 ≡ c.args.part.items = items_from_drains i.1 (i.3.1.0, i.3.1.1, λ _. (i.3.0, i.3.1.2)) (YieldsList-from_vec c.args.part.items i.2.0 (i.2.1 ∙ long)) in
    i.4 ∙ ap (splice c.args.nodes.now.items c.args.place (c.args.place + 1)) (sym (map-id i.1) ∙ came)
