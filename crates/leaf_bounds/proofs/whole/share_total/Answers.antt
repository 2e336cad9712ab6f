use Rattle.std.proofs.Common.{sym, arith}
use mir.Syntax.{w128}
use mir.Val.{to_z}
use Rattle.location_terms.specs.Leaf.{share_in}
use Rattle.location_terms.specs.declared.form.LeafForm.TheVariants.{Whole}
use Rattle.dual_value.specs.declared.bounds.TheConstants.{MAX_SLACK}
use Rattle.dual_value.proofs.Sizes.{total_none, total_step, size_step}
use Rattle.leaf_bounds.proofs.whole.share_total.Goals as goal

pub loop-site-init : goal.loop-site-init
loop-site-init c = record { exact = sym (total_none _); small = omega arith }

pub loop-site-preserved : goal.loop-site-preserved
loop-site-preserved c =
    let f = share_in Whole c.args.boxed.now.instance c.args.boxed.now.path c.args.duals.now in
    let i = c.loop-site.site in
    let sum = to_z w128 c.loop-site.sum-bits in
    let few = c.sites-site-end.ensures.valid.sizes.few_sites in
    record {
      exact = total_step f i MAX_SLACK sum c.in_ok-sum.field-0 c.loop-site.invariant.exact c.loop-site.invariant.small c.in_ok-sum.ensures.exact c.in_ok-sum.ensures.small (omega arith);
      small = size_step i MAX_SLACK sum c.in_ok-sum.field-0 c.loop-site.invariant.small c.in_ok-sum.ensures.small (omega arith);
    }
