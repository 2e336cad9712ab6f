use Rattle.dualoc_cli.proofs.Proving.{site_range, site_best, lane_cost_range, lane_best}
use Rattle.dualoc_cli.proofs.range.range_at.Goals as goal

pub returns-in-Site-clause-range : goal.returns-in-Site-clause-range
returns-in-Site-clause-range c =
    site_range c.args.inst.now c.args.tree.now c.args.plan.now c.args.at c.fixed_range.result c.in-Site.site c.new.result c.new.ensures c.in-Site.is c.fixed_range.ensures.range

pub returns-in-Site-clause-optimal : goal.returns-in-Site-clause-optimal
returns-in-Site-clause-optimal c =
    site_best c.args.inst.now c.args.tree.now c.args.plan.now c.args.at c.fixed_range.result c.in-Site.site c.new.result c.new.ensures c.in-Site.is c.fixed_range.ensures.optimal

pub returns-in-Lane-clause-range : goal.returns-in-Lane-clause-range
returns-in-Lane-clause-range c =
    lane_cost_range c.args.inst.now c.args.tree.now c.args.plan.now c.args.at c.lane_range.result c.in-Lane.site c.in-Lane.cust c.new-site.result c.new-cust.result c.new-site.ensures c.new-cust.ensures
    c.in-Lane.is c.lane_range.ensures.range

pub returns-in-Lane-clause-optimal : goal.returns-in-Lane-clause-optimal
returns-in-Lane-clause-optimal c =
    lane_best c.args.inst.now c.args.tree.now c.args.plan.now c.args.at c.lane_range.result c.in-Lane.site c.in-Lane.cust c.new-site.result c.new-cust.result c.new-site.ensures c.new-cust.ensures
    c.in-Lane.is c.lane_range.ensures.optimal
