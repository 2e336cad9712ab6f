use Rattle.std.proofs.Common.{◌≡◌, ◌+◌, ◌<◌, length, arith, subst, sym}
use Rattle.std.proofs.lemmas.Bool.{iff_false}
use Rattle.location_terms.specs.Instance.{customer_at}
use Rattle.set_walk.specs.declared.pricing.Nearest.{Nearest}
use Rattle.set_walk.proofs.Steps.{opened_before, IsNearestSoFar, IsNearestSoFar-takes, IsNearestSoFar-keeps, IsNearestSoFar-passes, nearest_found}
use Rattle.set_walk.proofs.pricing.nearest_site.Goals as goal
use Rattle.set_walk.proofs.pricing.nearest_site.Goals.{then-has+then-cost-nearest, then-has+else-cost-nearest, else-has}

pub loop-site-preserved : goal.loop-site-preserved
loop-site-preserved c =
    let I = c.args.inst.now in
    let set = c.args.set.bits in
    let id = (customer_at I c.args.customer).id in
    let i = c.loop-site.site in
    let best = c.loop-site.nearest in
    let so_far = c.loop-site.invariant in
    let within : i < length I.sites = omega (arith, c.sites-site-end.ensures.count) in
    elim c.if-has.branch [
      | then-has+then-cost-nearest w ↦ subst (λ (n : Nearest). IsNearestSoFar I (opened_before I set (i + 1)) id n.site n.cost) (sym w.nearest-is) (IsNearestSoFar-takes I set id i best.site best.cost w.serving_cost-cost.result within (c.has.ensures.0 w.if-has.true) so_far w.serving_cost-cost.ensures.exact w.if-cost-nearest.true)
      | then-has+else-cost-nearest w ↦ subst (λ (n : Nearest). IsNearestSoFar I (opened_before I set (i + 1)) id n.site n.cost) (sym w.nearest-is) (IsNearestSoFar-keeps I set id i best.site best.cost w.serving_cost-cost.result within (c.has.ensures.0 w.if-has.true) so_far w.serving_cost-cost.ensures.exact w.if-cost-nearest.false)
      | else-has w ↦ subst (λ (n : Nearest). IsNearestSoFar I (opened_before I set (i + 1)) id n.site n.cost) (sym w.nearest-is) (IsNearestSoFar-passes I set id i best.site best.cost within (iff_false c.has.ensures w.if-has.false) so_far)
    ]

pub returns : goal.returns
returns c =
    let I = c.args.inst.now in
    let best = c.loop-site.nearest in
    let end : c.loop-site.site ≡ length I.sites = omega (arith, c.sites-site-end.ensures.count) in
    let found = nearest_found I c.sites-site-end.ensures.valid c.args.set.bits (customer_at I c.args.customer).id best.site best.cost c.loop-site.site end c.requires.some c.loop-site.invariant in
    record { site = found.0; nearest = found.1; cost = found.2; small = found.3 }
