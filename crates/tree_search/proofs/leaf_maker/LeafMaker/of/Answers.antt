use Rattle.std.proofs.Common.{refl, ◌∙◌, ap, pos}
use Rattle.dual_value.specs.Zeros.{zeros}
use Rattle.tree_search.specs.declared.leaf_maker.LeafMaker.TheInside.{Inside}
use Rattle.tree_search.proofs.Leaves.{first_alike}
use Rattle.tree_search.proofs.leaf_maker.LeafMaker.of.Goals as goal

pub invariant_of-result : goal.invariant_of-result
invariant_of-result c =
    let a : Inside = record { zeros = c.in_ok-zeros.zeros; plain = c.in_ok-plain.plain; plain_bound = pos 0; hint = c.new.result; best = c.in_ok-best.best; bound = pos 0 } in
    first_alike c.args.inst.now a (c.in_ok-zeros.ensures ∙ ap (zeros c.args.inst.now) c.plain_scale.ensures) c.in_ok-plain.ensures (c.in_ok-best.ensures.duals ∙ c.in_ok-start.ensures) c.in_ok-best.ensures.work refl refl

pub returns : goal.returns
returns c = c.in_ok-zeros.ensures ∙ ap (zeros c.args.inst.now) c.plain_scale.ensures
