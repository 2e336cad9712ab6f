use Rattle.std.proofs.Common.{ap, sym, subst, ◌∙◌}
use Rattle.std.specs.Prelude.{IsSome, is_some, not}
use Rattle.location_terms.specs.Instance.{lane}
use Rattle.range_scan.specs.Prices.{with_lane_costing, lane_cost_of}
use Rattle.range_scan.specs.Range.{IsCostRange}
use Rattle.range_scan.proofs.Scans.{lane_scanned, lane_optimal}
use Rattle.range_scan.proofs.scanning.lane_range.Goals as goal

pub lane_lack-requires-clause-there : goal.lane_lack-requires-clause-there
lane_lack-requires-clause-there c = ap is_some (sym c.lane.ensures.exact) ∙ c.is_none.ensures ∙ ap not c.if-is_none.false

pub range_short-requires : goal.range_short-requires
range_short-requires c =
    let I = c.args.inst.now in
    let s = c.args.site in
    let b = c.args.cust in
    let there : IsSome (lane I s b) =
    (λ k. is_some (lane I (sym c.in-Some.ensures.found.1 k) (sym c.in-Some-cust_at.ensures.found.1 k))) ∙ ap is_some (sym c.lane.ensures.exact) ∙ c.is_none.ensures ∙ ap not c.if-is_none.false in
    (lane_scanned I c.sites-valid.ensures.valid c.args.tree.now c.args.plan.now c.requires s b there c.uses_lane-is_used.result c.in_ok-lack.lack _ c.uses_lane-is_used.ensures
    (λ k. with_lane_costing I (c.in-Some.ensures.found.1 k) (c.in-Some-cust_at.ensures.found.1 k) (c.far_end.ensures.exact k)) c.in_ok-lack.ensures).0

pub returns-clause-range : goal.returns-clause-range
returns-clause-range c =
    let I = c.args.inst.now in
    let s = c.args.site in
    let b = c.args.cust in
    let there : IsSome (lane I s b) =
    (λ k. is_some (lane I (sym c.in-Some.ensures.found.1 k) (sym c.in-Some-cust_at.ensures.found.1 k))) ∙ ap is_some (sym c.lane.ensures.exact) ∙ c.is_none.ensures ∙ ap not c.if-is_none.false in
    subst (IsCostRange (with_lane_costing I s b) (lane_cost_of I s b) c.args.tree.now c.args.plan.now) (sym c.range_short.ensures)
    (lane_scanned I c.sites-valid.ensures.valid c.args.tree.now c.args.plan.now c.requires s b there c.uses_lane-is_used.result c.in_ok-lack.lack _ c.uses_lane-is_used.ensures
    (λ k. with_lane_costing I (c.in-Some.ensures.found.1 k) (c.in-Some-cust_at.ensures.found.1 k) (c.far_end.ensures.exact k)) c.in_ok-lack.ensures).1

pub returns-clause-optimal : goal.returns-clause-optimal
returns-clause-optimal c =
    let I = c.args.inst.now in
    let s = c.args.site in
    let b = c.args.cust in
    let there : IsSome (lane I s b) =
    (λ k. is_some (lane I (sym c.in-Some.ensures.found.1 k) (sym c.in-Some-cust_at.ensures.found.1 k))) ∙ ap is_some (sym c.lane.ensures.exact) ∙ c.is_none.ensures ∙ ap not c.if-is_none.false in
    let range : IsCostRange (with_lane_costing I s b) (lane_cost_of I s b) c.args.tree.now c.args.plan.now c.range_short.result =
    subst (IsCostRange (with_lane_costing I s b) (lane_cost_of I s b) c.args.tree.now c.args.plan.now) (sym c.range_short.ensures)
    (lane_scanned I c.sites-valid.ensures.valid c.args.tree.now c.args.plan.now c.requires s b there c.uses_lane-is_used.result c.in_ok-lack.lack _ c.uses_lane-is_used.ensures
    (λ k. with_lane_costing I (c.in-Some.ensures.found.1 k) (c.in-Some-cust_at.ensures.found.1 k) (c.far_end.ensures.exact k)) c.in_ok-lack.ensures).1 in
    lane_optimal I c.sites-valid.ensures.valid c.args.tree.now c.args.plan.now c.requires s b there c.range_short.result range

pub returns-clause-known : goal.returns-clause-known
returns-clause-known c =
    let I = c.args.inst.now in
    (λ k. is_some (lane I (sym c.in-Some.ensures.found.1 k) (sym c.in-Some-cust_at.ensures.found.1 k))) ∙ ap is_some (sym c.lane.ensures.exact) ∙ c.is_none.ensures ∙ ap not c.if-is_none.false
