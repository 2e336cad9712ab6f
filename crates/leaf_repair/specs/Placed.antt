-- For private functions alone: no public contract cites this page.
-- Where ids stood in lists from before, and numbers that are read by such places.
use Rattle.std.specs.Prelude.{ℕ, List, map, pos, zip, Option, None, Some, is_some, unwrap_or, slice_get, if◌then◌else◌}
use Rattle.location_terms.specs.Instance.{Instance}
use Rattle.location_terms.specs.Bound.{Duals}
use Rattle.instance_store.specs.Places.{place_of}
use Rattle.leaf_repair.specs.CarriedTree.{form_on}

-- the first place of each id among those from before, where it stands there
abbrev pub places_of : List ℕ → List ℕ → List (Option ℕ)
places_of before now = map (λ id. place_of id before) now

-- the number at a place, another one where there is no place
abbrev pub at_place : {X : Type 0} → List X → X → Option ℕ → X
at_place numbers other None = other
at_place numbers other (Some k) = unwrap_or (slice_get numbers k) other

-- the prices of an instance's sites, at these places; none where a site has no capacity
abbrev pub prices_at : Instance → List (Option ℕ) → List ℕ → List ℕ
prices_at I places prices = map (λ p. if is_some p.0.cap then at_place prices 0 p.1 else 0) (zip I.sites places)

-- the duals of a leaf, in its form on the instance, whose sites and customers stood at these places
abbrev pub placed_duals : Instance → List (Option ℕ) → List (Option ℕ) → Duals → Duals
placed_duals I sites customers d = record {
  form = form_on I d.form;
  q = d.q;
  nu = d.nu;
  v = map (at_place d.v (pos 0)) customers;
  u = prices_at I sites d.u;
}
