use Rattle.std.proofs.Common.{subst}
use Rattle.instance_store.specs.Changes.{with_fixed}
use Rattle.range_scan.specs.Prices.{with_lane_costing}
use Rattle.range_scan.proofs.Ranges.{IsPriced, proved_below, proved_above}
use Rattle.range_scan.proofs.Families.{fixed_priced, lane_cost_priced, opens_where, opens_nowhere, uses_where, uses_nowhere}
use Rattle.range_scan.proofs.laws.proved_beyond.Goals as goal

pub returns-clause-site_used : goal.returns-clause-site_used
returns-clause-site_used c I s t P less x valid known used low proved =
    proved_below (with_fixed I s) P t (subst (IsPriced (with_fixed I s) P) (opens_where P s used) (fixed_priced I valid s known P proved.shows.0.0.plan)) less x low proved

pub returns-clause-site_unused : goal.returns-clause-site_unused
returns-clause-site_unused c I s t P x more valid known unused low proved =
    proved_above (with_fixed I s) P t (subst (IsPriced (with_fixed I s) P) (opens_nowhere P s unused) (fixed_priced I valid s known P proved.shows.0.0.plan)) x more low proved

pub returns-clause-lane_used : goal.returns-clause-lane_used
returns-clause-lane_used c I s b t P less x valid there used low proved =
    proved_below (with_lane_costing I s b) P t (subst (IsPriced (with_lane_costing I s b) P) (uses_where P s b used) (lane_cost_priced I valid s b there P proved.shows.0.0.plan)) less x low proved

pub returns-clause-lane_unused : goal.returns-clause-lane_unused
returns-clause-lane_unused c I s b t P x more valid there unused low proved =
    proved_above (with_lane_costing I s b) P t (subst (IsPriced (with_lane_costing I s b) P) (uses_nowhere P s b unused) (lane_cost_priced I valid s b there P proved.shows.0.0.plan)) x more low proved
