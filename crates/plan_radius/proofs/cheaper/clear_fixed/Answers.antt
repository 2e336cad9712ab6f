use Rattle.std.proofs.Common.{◌+◌, sym, subst, arith}
use Rattle.plan_radius.specs.Clearing.{ArePartlyCostless}
use Rattle.plan_radius.proofs.Clearing.{one_more, all_costless}
use Rattle.plan_radius.proofs.cheaper.clear_fixed.Goals as goal

pub loop-site-preserved : goal.loop-site-preserved
loop-site-preserved c =
    subst (ArePartlyCostless (c.loop-site.site + 1) c.args.inst.now) (sym c.set_fixed.ensures)
    (one_more c.loop-site.site c.args.inst.now c.loop-site.inst c.loop-site.invariant (omega (arith, c.loop-site-test.true, c.sites-site-end.ensures.count)))

pub returns : goal.returns
returns c = all_costless c.loop-site.site c.args.inst.now c.loop-site.inst c.loop-site.invariant (omega (arith, c.loop-site-test.false, c.loop-site.auto.site-end, c.sites-site-end.ensures.count))
