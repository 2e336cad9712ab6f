use Rattle.std.proofs.Common.{◌≡◌, ◌*◌, refl, ap, arith, ◌∙◌, ◌-ℤ◌, ◌+ℤ◌}
use mir.Syntax.{w128}
use mir.Val.{to_z, of_z}
use Rattle.location_terms.specs.Bound.{bound_of, count_price}
use Rattle.location_terms.specs.declared.limits.TheConstants.{MAX_SITES, MAX_CUSTOMERS, MAX_VALUE}
use Rattle.dual_value.specs.declared.bounds.TheConstants.{MAX_SLACK}
use Rattle.dual_value.proofs.Sizes.{kept, difference_sum_kept}
use Rattle.dual_value.proofs.bounds.bound.Goals as goal

pub returns-clause-exact : goal.returns-clause-exact
returns-clause-exact g c =
    let I = c.args.inst.now in
    let d = g.D.DualsByPlace.numbers c.args.duals.now in
    let nu : to_z w128 (of_z w128 c.nu.result) ≡ d.nu = rw c.nu.ensures (kept d.nu MAX_VALUE c.requires.in_limits.count_price (omega arith)) in
    let price : c.count_price.result ≡ count_price I d.nu = c.count_price.ensures.exact ∙ ap (count_price I) nu in
    let same : (c.value_total.result -ℤ c.count_price.result) +ℤ c.share_total.result ≡ bound_of I c.args.path.now d = rw (c.value_total.ensures.exact, price, c.share_total.ensures.exact, c.seen-path.ensures.steps) refl in
    difference_sum_kept c.value_total.result c.count_price.result c.share_total.result (MAX_CUSTOMERS * MAX_VALUE) (MAX_SITES * MAX_VALUE) (MAX_SITES * MAX_SLACK)
    c.value_total.ensures.small c.count_price.ensures.small c.share_total.ensures.small (omega arith)
    ∙ same
