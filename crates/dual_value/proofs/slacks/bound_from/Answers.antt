use Rattle.std.proofs.Common.{◌≡◌, ◌<◌, ◌≤◌, ◌*◌, sym, ap, subst, arith, ◌∙◌, length, pos, ◌-ℤ◌, ◌+ℤ◌, slice_index_or}
use mir.Syntax.{w128}
use mir.Val.{to_z, of_z}
use Rattle.std.specs.Int.RustNames.{unsigned_abs}
use Rattle.std.proofs.lemmas.List.{get_or_default}
use Rattle.location_terms.specs.Instance.{Instance, IsValid, site_at}
use Rattle.location_terms.specs.Bound.{bound_of, count_price, total, share_of, v_at}
use Rattle.location_terms.specs.declared.limits.TheConstants.{MAX_SITES, MAX_CUSTOMERS, MAX_VALUE}
use Rattle.location_terms.proofs.Totals.{total_same}
use Rattle.dual_value.specs.Paid.{share_with}
use Rattle.dual_value.specs.declared.bounds.TheConstants.{MAX_SLACK}
use Rattle.dual_value.proofs.Payments.{left_small}
use Rattle.dual_value.proofs.Sizes.{kept, difference_sum_kept}
use Rattle.dual_value.proofs.slacks.bound_from.Goals as goal

pub share_sum-requires-clause-small : goal.share_sum-requires-clause-small
share_sum-requires-clause-small c = λ k e b.
    let I : Instance = c.args.boxed.now.instance in
    let slacks = c.args.slacks.now in
    let valid : IsValid I = subst IsValid c.instance-inst.ensures c.sites-valid.ensures.valid in
    let inside : k < length I.sites = omega (arith, b, c.requires.slacks.count) in
    let is = get_or_default slacks k e (pos 0) b ∙ c.requires.slacks.each k inside in
    let size = left_small I c.args.boxed.now.path c.args.duals.now valid c.requires.fit k (length I.customers) inside (omega arith) in
    subst (λ x. unsigned_abs x ≤ MAX_SLACK) (sym is) (omega (arith, size))

pub returns-clause-exact : goal.returns-clause-exact
returns-clause-exact c =
    let I : Instance = c.args.boxed.now.instance in
    let path = c.args.boxed.now.path in
    let d = c.args.duals.now in
    let slacks = c.args.slacks.now in
    let nu : to_z w128 (of_z w128 c.nu.result) ≡ d.nu = rw c.nu.ensures (kept d.nu MAX_VALUE c.requires.fit.in_limits.count_price (omega arith)) in
    let values : c.value_total.result ≡ total (v_at d) (length I.customers) = c.value_total.ensures.exact ∙ ap (λ (J : Instance). total (v_at d) (length J.customers)) c.instance-inst.ensures in
    let price : c.count_price.result ≡ count_price I d.nu = c.count_price.ensures.exact ∙ (λ i. count_price (c.instance-inst.ensures i) (nu i)) in
    let shares : c.share_sum.result ≡ total (share_of I path d) (length I.sites) =
    c.share_sum.ensures.exact ∙ ap (total (λ i. share_with path (site_at I i) (slice_index_or slacks i (pos 0)))) c.requires.slacks.count
    ∙ total_same (λ i. share_with path (site_at I i) (slice_index_or slacks i (pos 0))) (share_of I path d) (length I.sites) (λ i b. ap (share_with path (site_at I i)) (c.requires.slacks.each i b)) in
    let same : (c.value_total.result -ℤ c.count_price.result) +ℤ c.share_sum.result ≡ bound_of I path d = λ i. (values i -ℤ price i) +ℤ shares i in
    difference_sum_kept c.value_total.result c.count_price.result c.share_sum.result (MAX_CUSTOMERS * MAX_VALUE) (MAX_SITES * MAX_VALUE) (MAX_SITES * MAX_SLACK)
    c.value_total.ensures.small c.count_price.ensures.small c.share_sum.ensures.small (omega arith)
    ∙ same
