use Rattle.std.proofs.Common.{◌≡◌, map, take, All}
use Rattle.location_terms.specs.Instance.{customer_ids}
use Rattle.set_walk.specs.Set.{opened, IsNearest}
use Rattle.set_walk.proofs.walk.nearest_serves.Given as goal

abbrev pub invariant-loop-customer : goal.invariant-loop-customer
invariant-loop-customer l = record {
  served : map (λ v. v.0) l.serves.items ≡ take l.customer (customer_ids l.inst);
  nearest : All (λ v. IsNearest l.inst (opened l.inst l.set.bits) v.0 v.1) l.serves.items;
}
