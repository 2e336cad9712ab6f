use Rattle.std.proofs.Common.{refl, sym, subst}
use Rattle.lane_order.specs.Order.{IsOrderOf}
use Rattle.instance_edits.specs.declared.edit.Inverse.{Inverse}
use Rattle.instance_edits.specs.Undo.{put_back}
use Rattle.instance_edits.proofs.OrderChanges.{site_kept, customer_kept, count_kept}
use Rattle.instance_edits.proofs.orders.follow_back.Goals as goal

pub returns-in-FormerFixed : goal.returns-in-FormerFixed
returns-in-FormerFixed c =
    subst (λ (b : Inverse). IsOrderOf c.args.order.now (put_back c.args.inst.now b)) (sym c.in-FormerFixed.is)
    (site_kept c.args.order.now c.args.inst.now c.in-FormerFixed.site (λ x. record x { fixed = c.in-FormerFixed.cost }) (λ _. refl) c.requires.order)

pub returns-in-FormerDemand : goal.returns-in-FormerDemand
returns-in-FormerDemand c =
    subst (λ (b : Inverse). IsOrderOf c.args.order.now (put_back c.args.inst.now b)) (sym c.in-FormerDemand.is)
    (customer_kept c.args.order.now c.args.inst.now c.in-FormerDemand.cust (λ x. record x { demand = c.in-FormerDemand.demand }) (λ _. refl) c.requires.order)

pub returns-in-FormerCap : goal.returns-in-FormerCap
returns-in-FormerCap c =
    subst (λ (b : Inverse). IsOrderOf c.args.order.now (put_back c.args.inst.now b)) (sym c.in-FormerCap.is)
    (site_kept c.args.order.now c.args.inst.now c.in-FormerCap.site (λ x. record x { cap = c.in-FormerCap.cap }) (λ _. refl) c.requires.order)

pub returns-in-FormerCount : goal.returns-in-FormerCount
returns-in-FormerCount c =
    subst (λ (b : Inverse). IsOrderOf c.args.order.now (put_back c.args.inst.now b)) (sym c.in-FormerCount.is)
    (count_kept c.args.order.now c.args.inst.now c.in-FormerCount.lo c.in-FormerCount.hi c.requires.order)

pub returns-in-FormerStatus : goal.returns-in-FormerStatus
returns-in-FormerStatus c =
    subst (λ (b : Inverse). IsOrderOf c.args.order.now (put_back c.args.inst.now b)) (sym c.in-FormerStatus.is)
    (site_kept c.args.order.now c.args.inst.now c.in-FormerStatus.site (λ x. record x { status = c.in-FormerStatus.status }) (λ _. refl) c.requires.order)
