use Rattle.std.proofs.Common.{sym, arith}
use mir.Syntax.{w128}
use mir.Val.{to_z}
use Rattle.location_terms.specs.Bound.{share_of}
use Rattle.dual_value.specs.declared.bounds.TheConstants.{MAX_SLACK}
use Rattle.dual_value.proofs.Sizes.{total_none, total_step, size_step}
use Rattle.dual_value.proofs.bounds.share_total.Goals as goal

pub loop-site-init : goal.loop-site-init
loop-site-init g c = record { exact = sym (total_none _); small = omega arith }

pub loop-site-preserved : goal.loop-site-preserved
loop-site-preserved g c =
    let f = share_of c.args.inst.now c.args.path.now.steps.now (g.D.DualsByPlace.numbers c.args.duals.now) in
    let i = c.loop-site.site in
    let sum = to_z w128 c.loop-site.sum-bits in
    let few = c.requires.valid.sizes.few_sites in
    record {
      exact = total_step f i MAX_SLACK sum c.share-sum.result c.loop-site.invariant.exact c.loop-site.invariant.small c.share-sum.ensures.exact c.share-sum.ensures.small (omega arith);
      small = size_step i MAX_SLACK sum c.share-sum.result c.loop-site.invariant.small c.share-sum.ensures.small (omega arith);
    }
