use Rattle.std.proofs.Common.{◌≡◌, ◌∙◌, arith}
use mir.Syntax.{w128}
use mir.Val.{to_z, of_z}
use Rattle.dual_value.specs.declared.bounds.TheConstants.{MAX_BOUND}
use Rattle.dual_value.proofs.Sizes.{kept}
use Rattle.side_multipliers.proofs.Rises.{rise_is_no_worse}
use Rattle.side_multipliers.proofs.improving.take.Goals as goal

pub returns : goal.returns
returns c =
    let I = c.args.boxed.now.instance in
    let path = c.args.boxed.now.path in
    let bits : to_z w128 (of_z w128 c.bound-bound.result) ≡ c.bound-bound.result = kept c.bound-bound.result MAX_BOUND c.bound-bound.ensures.small (omega arith) in
    rise_is_no_worse I path c.args.proposed.now c.args.best.now c.rises_from-rises.new.self _ _ c.rises_from-rises.result c.requires.risen c.requires.scale c.q.ensures (bits ∙ c.bound-bound.ensures.exact) c.rises_from-rises.ensures
