use Rattle.std.proofs.Common.{◌≡◌, map, pos}
use Rattle.std.specs.Prelude.{if◌then◌else◌}
use Rattle.std.specs.List.{range_with_len}
use Rattle.location_terms.specs.Instance.{customer_at}
use Rattle.tree_search.specs.Rays.{is_forced}
use Rattle.tree_search.proofs.forced.ray_of.Given as goal

abbrev pub invariant-loop-cust : goal.invariant-loop-cust
invariant-loop-cust l = l.values.items ≡ map (λ j. if is_forced l.boxed.instance l.boxed.path l.site j then pos (customer_at l.boxed.instance j).demand else pos 0) (range_with_len 0 l.cust)
