use Rattle.std.proofs.Common.{◌≡◌, take}
use Rattle.std.specs.Prelude.{vec_len, vec_capacity}
use Rattle.location_terms.specs.Instance.{customer_ids}
use Rattle.leaf_repair.specs.Placed.{places_of}
use Rattle.leaf_book.proofs.ids.place_custs.Given as goal

-- the places so far
abbrev pub invariant-loop-cust : goal.invariant-loop-cust
invariant-loop-cust l = record {
  places : l.places.items ≡ places_of l.ids (take l.cust (customer_ids l.inst));
  len : vec_len l.places ≡ l.cust;
  room : vec_capacity l.places ≡ vec_capacity l.fn.places;
}
