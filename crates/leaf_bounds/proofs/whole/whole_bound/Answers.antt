use Rattle.std.proofs.Common.{◌≡◌, ◌*◌, ap, arith, ◌∙◌, length, ◌-ℤ◌, ◌+ℤ◌}
use mir.Syntax.{w128}
use mir.Val.{to_z, of_z}
use Rattle.location_terms.specs.Instance.{Instance}
use Rattle.location_terms.specs.Bound.{count_price, total, v_at}
use Rattle.location_terms.specs.Leaf.{bound_in}
use Rattle.location_terms.specs.declared.form.LeafForm.TheVariants.{Whole}
use Rattle.location_terms.specs.declared.limits.TheConstants.{MAX_SITES, MAX_CUSTOMERS, MAX_VALUE}
use Rattle.dual_value.specs.declared.bounds.TheConstants.{MAX_SLACK}
use Rattle.dual_value.proofs.Sizes.{kept, difference_sum_kept}
use Rattle.leaf_bounds.proofs.whole.whole_bound.Goals as goal

pub returns-clause-exact : goal.returns-clause-exact
returns-clause-exact c =
    let I : Instance = c.args.boxed.now.instance in
    let d = c.args.duals.now in
    let nu : to_z w128 (of_z w128 c.nu.result) ≡ d.nu = rw c.nu.ensures (kept d.nu MAX_VALUE c.requires.in_limits.count_price (omega arith)) in
    let values : c.value_total.result ≡ total (v_at d) (length I.customers) = c.value_total.ensures.exact ∙ ap (λ (J : Instance). total (v_at d) (length J.customers)) c.instance-inst.ensures in
    let price : c.count_price.result ≡ count_price I d.nu = c.count_price.ensures.exact ∙ (λ i. count_price (c.instance-inst.ensures i) (nu i)) in
    let same : (c.value_total.result -ℤ c.count_price.result) +ℤ c.in_ok-shares.shares ≡ bound_in Whole I c.args.boxed.now.path d = λ i. (values i -ℤ price i) +ℤ c.in_ok-shares.ensures.exact i in
    difference_sum_kept c.value_total.result c.count_price.result c.in_ok-shares.shares (MAX_CUSTOMERS * MAX_VALUE) (MAX_SITES * MAX_VALUE) (MAX_SITES * MAX_SLACK)
    c.value_total.ensures.small c.count_price.ensures.small c.in_ok-shares.ensures.small (omega arith)
    ∙ same
