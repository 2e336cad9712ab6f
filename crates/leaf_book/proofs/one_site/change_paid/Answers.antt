use Rattle.std.proofs.Common.{◌≡◌, ◌≤◌, ◌*◌, ◌∙◌, refl, ap, sym, subst, arith, ℤ}
use mir.Syntax.{w128}
use mir.Val.{to_z}
use Rattle.std.specs.Int.RustNames.{unsigned_abs}
use Rattle.location_terms.specs.Instance.{Instance, site_at, customer_at, lane}
use Rattle.location_terms.specs.Bound.{Duals}
use Rattle.location_terms.specs.declared.limits.TheConstants.{MAX_VALUE}
use Rattle.dual_value.proofs.Sizes.{kept, difference_kept, size-minus}
use Rattle.leaf_book.proofs.Behind.{over_is}
use Rattle.leaf_book.proofs.OneTerm.{paid_alike_over, paid_open}
use Rattle.leaf_book.proofs.one_site.change_paid.Goals as goal

pub returns-then-before-now-clause-exact : goal.returns-then-before-now-clause-exact
returns-then-before-now-clause-exact g c =
    let I : Instance = c.args.inst.now in
    let d : Duals = g.D.DualsByPlace.numbers c.args.duals.now in
    let before : ℤ = c.over_level-before.result in
    let now : ℤ = c.over_level-now.result in
    let lane_is = lane I (site_at I c.args.site).id (customer_at I c.args.cust).id in
    let before_is = over_is I d c.args.site c.args.cust c.requires.fit c.requires.customer _ _ _ _ c.args.former c.args.former before c.q-q.ensures c.u-price.ensures c.v-value.ensures c.demand-demand.ensures.exact refl c.over_level-before.ensures.exact in
    let now_is = over_is I d c.args.site c.args.cust c.requires.fit c.requires.customer _ _ _ _ c.lane.result lane_is now c.q-q.ensures c.u-price.ensures c.v-value.ensures c.demand-demand.ensures.exact c.lane.ensures.exact c.over_level-now.ensures.exact in
    paid_alike_over I c.args.path.now d c.args.site c.args.cust c.args.former lane_is
    (sym before_is ∙ sym (kept before MAX_VALUE c.over_level-before.ensures.small (omega arith)) ∙ ap (to_z w128) c.if-before-now.true ∙ kept now MAX_VALUE c.over_level-now.ensures.small (omega arith) ∙ now_is)

pub returns-clause-exact : goal.returns-clause-exact
returns-clause-exact g c =
    let I : Instance = c.args.inst.now in
    let d : Duals = g.D.DualsByPlace.numbers c.args.duals.now in
    let before : ℤ = c.over_level-before.result in
    let now : ℤ = c.over_level-now.result in
    let lane_is = lane I (site_at I c.args.site).id (customer_at I c.args.cust).id in
    let before_is = over_is I d c.args.site c.args.cust c.requires.fit c.requires.customer _ _ _ _ c.args.former c.args.former before c.q-q.ensures c.u-price.ensures c.v-value.ensures c.demand-demand.ensures.exact refl c.over_level-before.ensures.exact in
    let now_is = over_is I d c.args.site c.args.cust c.requires.fit c.requires.customer _ _ _ _ c.lane.result lane_is now c.q-q.ensures c.u-price.ensures c.v-value.ensures c.demand-demand.ensures.exact c.lane.ensures.exact c.over_level-now.ensures.exact in
    difference_kept before now MAX_VALUE MAX_VALUE c.over_level-before.ensures.small c.over_level-now.ensures.small (omega arith)
    ∙ paid_open I c.args.path.now d c.args.site c.args.cust c.args.former lane_is before now before_is now_is (sym c.is_open_to.ensures ∙ c.if-not-is_open_to.false)

pub returns-clause-small : goal.returns-clause-small
returns-clause-small g c =
    subst (λ (x : ℤ). unsigned_abs x ≤ 2 * MAX_VALUE) (sym (difference_kept c.over_level-before.result c.over_level-now.result MAX_VALUE MAX_VALUE c.over_level-before.ensures.small c.over_level-now.ensures.small (omega arith)))
    (let both = size-minus c.over_level-before.result c.over_level-now.result MAX_VALUE MAX_VALUE c.over_level-before.ensures.small c.over_level-now.ensures.small in omega (arith, both))
