use Rattle.std.proofs.Common.{◌≡◌, ◌≤◌, sym, ◌∙◌, arith}
use Rattle.location_terms.specs.Instance.{customer_at}
use Rattle.location_terms.specs.Bound.{level_at}
use Rattle.location_terms.specs.declared.limits.TheConstants.{MAX_AMOUNT}
use Rattle.dual_ascent.proofs.Sized.{cost_small, level_is}
use Rattle.dual_ascent.proofs.Offers.{above_fits, offers_level, reaches, spent_is, offers_slack}
use Rattle.dual_ascent.proofs.looking.offered.Goals as goal

pub level-requires-clause-cost : goal.level-requires-clause-cost
level-requires-clause-cost c = cost_small c.args.boxed.now.instance c.requires.valid c.args.lane.site c.args.cust c.args.lane.cost c.requires.lane

pub level-requires-clause-demand : goal.level-requires-clause-demand
level-requires-clause-demand c =
    let small : (customer_at c.args.boxed.now.instance c.args.cust).demand ≤ MAX_AMOUNT = c.requires.valid.demands_small c.args.cust _ c.requires.customer in
    omega (arith, c.requires.demand)

pub overflow_sub-above : goal.overflow_sub-above
overflow_sub-above c =
    let I = c.args.boxed.now.instance in
    let d = c.args.duals.now in
    let i = c.args.lane.site in
    let j = c.args.cust in
    let is : c.level.result ≡ level_at I d i j = level_is I d i j c.q.result c.args.lane.cost c.u.result c.args.demand c.level.result c.level.ensures c.q.ensures c.u.ensures c.requires.demand c.requires.lane in
    above_fits I c.args.boxed.now.path d c.requires.valid c.requires.fit i c.requires.site j c.requires.customer c.level.result c.v.result is c.v.ensures

pub returns-then-above-gt0 : goal.returns-then-above-gt0
returns-then-above-gt0 c =
    let I = c.args.boxed.now.instance in
    let d = c.args.duals.now in
    let i = c.args.lane.site in
    let j = c.args.cust in
    let is : c.level.result ≡ level_at I d i j = level_is I d i j c.q.result c.args.lane.cost c.u.result c.args.demand c.level.result c.level.ensures c.q.ensures c.u.ensures c.requires.demand c.requires.lane in
    offers_level I c.args.boxed.now.path d c.requires.valid c.requires.fit i c.requires.site j c.requires.customer c.level.result c.v.result is c.v.ensures (sym c.admits.ensures ∙ c.if-not-admits.false) c.if-above-gt0.true

pub returns-then-is_spent : goal.returns-then-is_spent
returns-then-is_spent c =
    let I = c.args.boxed.now.instance in
    let path = c.args.boxed.now.path in
    let d = c.args.duals.now in
    let i = c.args.lane.site in
    let j = c.args.cust in
    let is : c.level.result ≡ level_at I d i j = level_is I d i j c.q.result c.args.lane.cost c.u.result c.args.demand c.level.result c.level.ensures c.q.ensures c.u.ensures c.requires.demand c.requires.lane in
    let under = reaches I path d c.requires.valid c.requires.fit i c.requires.site j c.requires.customer c.level.result c.v.result is c.v.ensures c.if-above-gt0.false in
    let spent = spent_is I path d c.requires.valid c.requires.fit i c.requires.site c.args.slacks.now c.requires.slacks c.is_spent.result c.is_spent.ensures in
    (sym c.admits.ensures ∙ c.if-not-admits.false, under, sym spent ∙ c.if-is_spent.true)

pub returns : goal.returns
returns c =
    let I = c.args.boxed.now.instance in
    let path = c.args.boxed.now.path in
    let d = c.args.duals.now in
    let i = c.args.lane.site in
    let j = c.args.cust in
    let is : c.level.result ≡ level_at I d i j = level_is I d i j c.q.result c.args.lane.cost c.u.result c.args.demand c.level.result c.level.ensures c.q.ensures c.u.ensures c.requires.demand c.requires.lane in
    let under = reaches I path d c.requires.valid c.requires.fit i c.requires.site j c.requires.customer c.level.result c.v.result is c.v.ensures c.if-above-gt0.false in
    let spent = spent_is I path d c.requires.valid c.requires.fit i c.requires.site c.args.slacks.now c.requires.slacks c.is_spent.result c.is_spent.ensures in
    offers_slack I path d c.requires.valid c.requires.fit i c.requires.site c.args.slacks.now c.requires.slacks j (sym c.admits.ensures ∙ c.if-not-admits.false) under (sym spent ∙ c.if-is_spent.false)
