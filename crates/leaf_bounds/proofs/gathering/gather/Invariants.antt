use Rattle.std.proofs.Common.{◌≡◌, ◌≤◌, ◌≤ℤ◌, All, length, flat_map}
use Rattle.std.specs.List.{range_with_len}
use Rattle.location_terms.specs.Instance.{site_at}
use Rattle.binary_knapsack.specs.Loads.{kept}
use Rattle.binary_knapsack.specs.declared.room.TheConstants.{MAX_WORTH}
use Rattle.leaf_bounds.proofs.Gathered.{one_of}
use Rattle.leaf_bounds.proofs.gathering.gather.Given as goal

abbrev pub invariant-loop-cust : goal.invariant-loop-cust
invariant-loop-cust l = record {
  loads : kept (site_at l.boxed.instance l.site).cap l.items.items ≡ kept (site_at l.boxed.instance l.site).cap (flat_map (one_of l.boxed.instance l.boxed.path l.duals l.site) (range_with_len 0 l.cust));
  count : length l.items.items ≤ l.cust;
  worths : All (λ x. x.worth ≤ℤ MAX_WORTH) l.items.items;
}
