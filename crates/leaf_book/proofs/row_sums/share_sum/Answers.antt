use Rattle.std.proofs.Common.{◌≡◌, ℕ, sym, arith, ℤ, pos, slice_index_or}
use mir.Syntax.{w128}
use mir.Val.{to_z, of_z}
use Rattle.location_terms.specs.Instance.{site_at}
use Rattle.dual_value.specs.Paid.{share_with}
use Rattle.dual_value.specs.declared.bounds.TheConstants.{MAX_SLACK}
use Rattle.dual_value.proofs.Sizes.{total_none, total_step, size_step, kept}
use Rattle.leaf_book.proofs.row_sums.share_sum.Goals as goal

pub loop-site-init : goal.loop-site-init
loop-site-init c = record { exact = sym (total_none _); small = omega arith }

pub loop-site-preserved : goal.loop-site-preserved
loop-site-preserved c =
    let slacks = c.args.slacks.now in
    let i = c.loop-site.site in
    let f : ℕ → ℤ = λ k. share_with c.args.path.now (site_at c.args.inst.now k) (slice_index_or slacks k (pos 0)) in
    let sum = to_z w128 c.loop-site.sum-bits in
    let few = c.requires.few in
    let bits : to_z w128 (of_z w128 (slice_index_or slacks i (pos 0))) ≡ slice_index_or slacks i (pos 0) = kept (slice_index_or slacks i (pos 0)) MAX_SLACK (c.requires.small i (pos 0) c.loop-site-test.true) (omega arith) in
    let more : c.share-sum.result ≡ f i = rw bits at c.share-sum.ensures.exact in
    record {
      exact = total_step f i MAX_SLACK sum c.share-sum.result c.loop-site.invariant.exact c.loop-site.invariant.small more c.share-sum.ensures.small (omega arith);
      small = size_step i MAX_SLACK sum c.share-sum.result c.loop-site.invariant.small c.share-sum.ensures.small (omega arith);
    }
