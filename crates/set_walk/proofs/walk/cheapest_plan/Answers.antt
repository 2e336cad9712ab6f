use Rattle.std.proofs.Common.{◌≡◌, ◌≤◌, ap, sym, ◌∙◌, subst}
use Rattle.location_terms.specs.Plan.{Plan, IsPlan, cost_of}
use Rattle.location_terms.specs.Optimal.{IsOptimal}
use Rattle.set_walk.specs.Set.{opened, cost_on, IsNearestPlan}
use Rattle.set_walk.proofs.Costs.{cost_of-nearest}
use Rattle.set_walk.proofs.Least.{feasible_nearest, optimal_nearest}
use Rattle.set_walk.proofs.Steps.{some_where_holds}
use Rattle.set_walk.proofs.walk.cheapest_plan.Goals as goal
use Rattle.set_walk.proofs.walk.cheapest_plan.Goals.{After-new}

-- the plan to be
abbrev plan_from : After-new → Plan
plan_from c = record { sites = c.in_ok-sites.sites.items; serves = c.in_ok-serves.serves.items }

is_nearest : (c : After-new) → IsNearestPlan c.args.inst.now (opened c.args.inst.now c.least_set-best.result.set.bits) (plan_from c)
is_nearest c = record { sites = c.in_ok-sites.ensures; each_once = c.in_ok-serves.ensures.each_once; nearest = c.in_ok-serves.ensures.nearest }

pub unwrap-plan-requires : goal.unwrap-plan-requires
unwrap-plan-requires c =
    let plan = plan_from c in
    let can = feasible_nearest c.args.inst.now c.least_set-best.ensures.valid c.requires.plain c.least_set-best.result.set.bits plan (is_nearest c) in
    some_where_holds c.new.result (IsPlan plan) plan c.new.ensures can.plan

pub returns-clause-optimal : goal.returns-clause-optimal
returns-clause-optimal c =
    let before = (goal.at.returns-clause-optimal c).After-new in
    let plan = plan_from before in
    let is : c.unwrap-plan.result ≡ plan = (rw c.unwrap-plan.ensures at c.new.ensures).1 in
    let best = c.least_set-best in
    subst (IsOptimal c.args.inst.now) (sym is)
    (optimal_nearest c.args.inst.now best.ensures.valid c.requires.plain best.result.set.bits plan (is_nearest before)
    (λ other some below. subst (λ n. n ≤ cost_on c.args.inst.now (opened c.args.inst.now other)) best.ensures.cost (best.ensures.least other some below)))

pub returns-clause-cost : goal.returns-clause-cost
returns-clause-cost c =
    let before = (goal.at.returns-clause-cost c).After-new in
    let plan = plan_from before in
    let is : c.unwrap-plan.result ≡ plan = (rw c.unwrap-plan.ensures at c.new.ensures).1 in
    let best = c.least_set-best in
    best.ensures.cost
    ∙ sym (cost_of-nearest c.args.inst.now (opened c.args.inst.now best.result.set.bits) plan (is_nearest before))
    ∙ ap (cost_of c.args.inst.now) (sym is)
