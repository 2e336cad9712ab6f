use Rattle.std.proofs.Common.{◌≡◌, take}
use Rattle.std.specs.Prelude.{vec_len, vec_capacity}
use Rattle.location_terms.specs.Instance.{site_ids}
use Rattle.leaf_repair.specs.Placed.{places_of}
use Rattle.leaf_book.proofs.ids.place_sites.Given as goal

-- the places so far
abbrev pub invariant-loop-site : goal.invariant-loop-site
invariant-loop-site l = record {
  places : l.places.items ≡ places_of l.ids (take l.site (site_ids l.inst));
  len : vec_len l.places ≡ l.site;
  room : vec_capacity l.places ≡ vec_capacity l.fn.places;
}
