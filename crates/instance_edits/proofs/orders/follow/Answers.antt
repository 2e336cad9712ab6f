use Rattle.std.proofs.Common.{refl, subst}
use Rattle.lane_order.specs.Order.{IsOrderOf}
use Rattle.instance_edits.specs.declared.edit.Inverse.{Inverse}
use Rattle.instance_edits.specs.Undo.{put_back}
use Rattle.instance_edits.proofs.OrderChanges.{site_kept_back, customer_kept_back, count_kept_back}
use Rattle.instance_edits.proofs.orders.follow.Goals as goal

pub returns-in-FormerFixed : goal.returns-in-FormerFixed
returns-in-FormerFixed c =
    site_kept_back c.args.order.now c.args.inst.now c.in-FormerFixed.site (λ x. record x { fixed = c.in-FormerFixed.cost }) (λ _. refl)
    (subst (λ (b : Inverse). IsOrderOf c.args.order.now (put_back c.args.inst.now b)) c.in-FormerFixed.is c.requires.order)

pub returns-in-FormerDemand : goal.returns-in-FormerDemand
returns-in-FormerDemand c =
    customer_kept_back c.args.order.now c.args.inst.now c.in-FormerDemand.cust (λ x. record x { demand = c.in-FormerDemand.demand }) (λ _. refl)
    (subst (λ (b : Inverse). IsOrderOf c.args.order.now (put_back c.args.inst.now b)) c.in-FormerDemand.is c.requires.order)

pub returns-in-FormerCap : goal.returns-in-FormerCap
returns-in-FormerCap c =
    site_kept_back c.args.order.now c.args.inst.now c.in-FormerCap.site (λ x. record x { cap = c.in-FormerCap.cap }) (λ _. refl)
    (subst (λ (b : Inverse). IsOrderOf c.args.order.now (put_back c.args.inst.now b)) c.in-FormerCap.is c.requires.order)

pub returns-in-FormerCount : goal.returns-in-FormerCount
returns-in-FormerCount c =
    count_kept_back c.args.order.now c.args.inst.now c.in-FormerCount.lo c.in-FormerCount.hi
    (subst (λ (b : Inverse). IsOrderOf c.args.order.now (put_back c.args.inst.now b)) c.in-FormerCount.is c.requires.order)

pub returns-in-FormerStatus : goal.returns-in-FormerStatus
returns-in-FormerStatus c =
    site_kept_back c.args.order.now c.args.inst.now c.in-FormerStatus.site (λ x. record x { status = c.in-FormerStatus.status }) (λ _. refl)
    (subst (λ (b : Inverse). IsOrderOf c.args.order.now (put_back c.args.inst.now b)) c.in-FormerStatus.is c.requires.order)
