use Rattle.std.proofs.Common.{◌≡◌, take}
use Rattle.instance_store.specs.Parts.{cust_row_ids}
use Rattle.instance_store.proofs.index.cust_places.Given as goal

-- the ids of the rows so far
abbrev pub invariant-loop-cust : goal.invariant-loop-cust
invariant-loop-cust l = l.places.keys ≡ take l.cust-index (cust_row_ids l.custs)
