use Rattle.std.proofs.Common.{◌≡◌, ap, subst, ◌∙◌}
use Rattle.std.specs.Prelude.{IfOk}
use Rattle.location_terms.specs.Instance.{Instance, site_at, customer_at}
use Rattle.location_terms.specs.Plan.{cost_of}
use Rattle.location_terms.specs.Tree.{leaves_of}
use Rattle.range_scan.specs.Prices.{with_lane_costing}
use Rattle.range_scan.specs.Short.{IsLack}
use Rattle.range_scan.proofs.Scans.{lane_ready}
use Rattle.range_scan.proofs.scanning.lane_lack.Goals as goal

pub lack-requires-clause-feasible : goal.lack-requires-clause-feasible
lack-requires-clause-feasible c =
    let I = c.args.inst.now in
    let is : c.set_lane.new.self ≡ with_lane_costing I (site_at I c.args.site).id (customer_at I c.args.cust).id c.args.cost =
    c.set_lane.ensures ∙ ap (λ (J : Instance). with_lane_costing J (site_at J c.args.site).id (customer_at J c.args.cust).id c.args.cost) c.in_ok-moved.ensures in
    (lane_ready I c.sites-valid.ensures.valid c.args.tree.now c.args.plan.now c.requires.proved (site_at I c.args.site).id (customer_at I c.args.cust).id c.requires.there c.args.cost c.set_lane.new.self is).feasible

pub lack-requires-clause-fit : goal.lack-requires-clause-fit
lack-requires-clause-fit c =
    let I = c.args.inst.now in
    let is : c.set_lane.new.self ≡ with_lane_costing I (site_at I c.args.site).id (customer_at I c.args.cust).id c.args.cost =
    c.set_lane.ensures ∙ ap (λ (J : Instance). with_lane_costing J (site_at J c.args.site).id (customer_at J c.args.cust).id c.args.cost) c.in_ok-moved.ensures in
    (lane_ready I c.sites-valid.ensures.valid c.args.tree.now c.args.plan.now c.requires.proved (site_at I c.args.site).id (customer_at I c.args.cust).id c.requires.there c.args.cost c.set_lane.new.self is).fit

pub returns : goal.returns
returns c =
    let I = c.args.inst.now in
    let is : c.set_lane.new.self ≡ with_lane_costing I (site_at I c.args.site).id (customer_at I c.args.cust).id c.args.cost =
    c.set_lane.ensures ∙ ap (λ (J : Instance). with_lane_costing J (site_at J c.args.site).id (customer_at J c.args.cust).id c.args.cost) c.in_ok-moved.ensures in
    subst (λ (J : Instance). IfOk c.lack.result (IsLack J (cost_of J c.args.plan.now) (leaves_of c.args.tree.now))) is c.lack.ensures
