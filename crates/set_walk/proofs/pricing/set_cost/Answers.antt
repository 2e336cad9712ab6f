use Rattle.std.proofs.Common.{◌<◌, length, arith}
use Rattle.set_walk.specs.Set.{opened}
use Rattle.set_walk.proofs.Steps.{serving_more}
use Rattle.set_walk.proofs.pricing.set_cost.Goals as goal

pub loop-customer-preserved : goal.loop-customer-preserved
loop-customer-preserved c =
    let I = c.args.inst.now in
    let within : c.loop-customer.customer < length I.customers = omega (arith, c.custs-customer-end.ensures.count) in
    record { so_far = omega (arith, serving_more I (opened I c.args.set.bits) c.loop-customer.customer within, c.nearest_site-cost.ensures.cost); small = omega arith }
