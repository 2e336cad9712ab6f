use Rattle.std.specs.List.{list_any}
use Rattle.std.specs.Prelude.{◌==◌, ◌&&◌}
use Rattle.instance_store.specs.Changes.{with_fixed}
use Rattle.range_scan.specs.Prices.{with_lane_costing}
use Rattle.range_scan.proofs.Ranges.{proved_amid}
use Rattle.range_scan.proofs.Families.{fixed_priced, lane_cost_priced}
use Rattle.range_scan.proofs.laws.proved_between.Goals as goal

pub returns-clause-fixed : goal.returns-clause-fixed
returns-clause-fixed c I s t P least x greatest valid known low high from to =
    proved_amid (with_fixed I s) P t (list_any (λ a. a == s) P.sites) (fixed_priced I valid s known P to.shows.0.0.plan) least x greatest low high from to

pub returns-clause-lane : goal.returns-clause-lane
returns-clause-lane c I s b t P least x greatest valid there low high from to =
    proved_amid (with_lane_costing I s b) P t (list_any (λ v. (v.1 == s) && (v.0 == b)) P.serves) (lane_cost_priced I valid s b there P to.shows.0.0.plan) least x greatest low high from to
