use Rattle.std.proofs.Common.{◌≡◌, ◌<◌, ◌*◌, ℕ, List, ℤ, ap, arith, ◌∙◌, length, pos, ◌-ℤ◌, ◌+ℤ◌, slice_index_or}
use mir.Syntax.{w128}
use mir.Val.{to_z, of_z}
use Rattle.std.proofs.lemmas.List.FromFn.{length-map-range_with_len, get_or-map-range_with_len}
use Rattle.location_terms.specs.Instance.{site_at}
use Rattle.location_terms.specs.Bound.{bound_of, count_price, total, share_of, slack_of}
use Rattle.location_terms.specs.declared.limits.TheConstants.{MAX_SITES, MAX_CUSTOMERS, MAX_VALUE}
use Rattle.location_terms.proofs.Totals.{total_same}
use Rattle.dual_value.specs.Paid.{share_with}
use Rattle.dual_value.specs.declared.bounds.TheConstants.{MAX_SLACK}
use Rattle.dual_value.proofs.Sizes.{kept, difference_sum_kept}
use Rattle.leaf_book.proofs.row_sums.bound_from.Goals as goal

pub share_sum-requires : goal.share_sum-requires
share_sum-requires g c =
    let I = c.args.inst.now in
    let long = ap length c.requires.slacks ∙ length-map-range_with_len (slack_of I c.args.path.now (g.D.DualsByPlace.numbers c.args.duals.now)) 0 (length I.sites) in
    let few = c.sites-valid.ensures.valid.sizes.few_sites in
    record { long = long; small = c.requires.small; few = omega (arith, long, few) }

pub returns-clause-exact : goal.returns-clause-exact
returns-clause-exact g c =
    let I = c.args.inst.now in
    let path = c.args.path.now in
    let d = g.D.DualsByPlace.numbers c.args.duals.now in
    let slacks = c.args.slacks.now in
    let long : length slacks ≡ length I.sites = ap length c.requires.slacks ∙ length-map-range_with_len (slack_of I path d) 0 (length I.sites) in
    let each : (i : ℕ) → i < length I.sites → slice_index_or slacks i (pos 0) ≡ slack_of I path d i =
    λ i b. ap (λ (xs : List ℤ). slice_index_or xs i (pos 0)) c.requires.slacks ∙ get_or-map-range_with_len (slack_of I path d) 0 (length I.sites) i i (pos 0) b (omega arith) in
    let nu : to_z w128 (of_z w128 c.nu.result) ≡ d.nu = rw c.nu.ensures (kept d.nu MAX_VALUE c.requires.fit.in_limits.count_price (omega arith)) in
    let price : c.count_price.result ≡ count_price I d.nu = c.count_price.ensures.exact ∙ ap (count_price I) nu in
    let shares : c.share_sum.result ≡ total (share_of I path d) (length I.sites) =
    c.share_sum.ensures.exact ∙ ap (total (λ i. share_with path (site_at I i) (slice_index_or slacks i (pos 0)))) long
    ∙ total_same (λ i. share_with path (site_at I i) (slice_index_or slacks i (pos 0))) (share_of I path d) (length I.sites) (λ i b. ap (share_with path (site_at I i)) (each i b)) in
    let same : (c.value_total.result -ℤ c.count_price.result) +ℤ c.share_sum.result ≡ bound_of I path d = λ i. (c.value_total.ensures.exact i -ℤ price i) +ℤ shares i in
    difference_sum_kept c.value_total.result c.count_price.result c.share_sum.result (MAX_CUSTOMERS * MAX_VALUE) (MAX_SITES * MAX_VALUE) (MAX_SITES * MAX_SLACK)
    c.value_total.ensures.small c.count_price.ensures.small c.share_sum.ensures.small (omega arith)
    ∙ same
