-- For private functions alone: no public contract cites this page.
-- When counting alone shows a box to be empty: a customer without an allowed lane, an opened site whose forced customers demand more
-- than it holds, and too many opened or too few possible sites. Where none of these is so, no simple ray closes the box.
use Rattle.std.specs.Prelude.{if◌then◌else◌, ◌≡◌, ℕ, ◌==◌, ◌<◌, ◌≤◌, ◌&&◌, not, Bool, IsTrue, length, filter, map, replicate, slice_set, sum_by, Option, ℤ, pos}
use Rattle.location_terms.specs.Instance.{Instance, site_at, customer_at}
use Rattle.location_terms.specs.declared.form.LeafForm.TheVariants.{Prices}
use Rattle.location_terms.specs.Bound.{Duals}
use Rattle.location_terms.specs.Box.{Path, is_allowed, is_opened, is_closed, holds_demand}
use Rattle.dual_ascent.specs.Levels.{site_places, customer_places, servers}
use Rattle.plan_search.specs.Packed.{opened_places}
use Rattle.tree_search.specs.Made.{AreServed, IsMadeLeaf}

-- the only allowed lane of the customer is from the site, both by place
abbrev pub is_forced : Instance → Path → ℕ → ℕ → Bool
is_forced I path i j = is_allowed I path (site_at I i) (customer_at I j) && (length (servers I path j) == 1)

-- what the customers that are forced to the site demand together
abbrev pub forced_demand : Instance → Path → ℕ → ℕ
forced_demand I path i = sum_by (λ j. (customer_at I j).demand) (filter (is_forced I path i) (customer_places I))

-- its ray: the price of the site's capacity is 1, and each dual is what a forced customer demands
abbrev pub forced_ray : Instance → Path → ℕ → Duals
forced_ray I path i = record {
  form = Prices;
  q = 0;
  nu = pos 0;
  v = map (λ j. if is_forced I path i j then pos (customer_at I j).demand else pos 0) (customer_places I);
  u = slice_set (replicate (length I.sites) 0) i 1;
}

-- the ray of a number of sites that is too great or too small: that number alone has a price
abbrev pub count_ray : Instance → ℤ → Duals
count_ray I nu = record { form = Prices; q = 0; nu = nu; v = replicate (length I.customers) (pos 0); u = replicate (length I.sites) 0 }

-- how many sites may be open
abbrev pub possible_count : Instance → Path → ℕ
possible_count I path = length (filter (λ i. not (is_closed path (site_at I i))) (site_places I))

-- a ray of the box: duals of scale 0 that are a leaf made in it, whichever leaf they replace
pub record IsRayIn (I : Instance) (path : Path) (d : Duals) : Type 0 where
  pub scale : d.q ≡ 0
  pub made : (cost : Option ℕ) (old_path : Path) (old : Duals) → IsMadeLeaf I cost old_path old path d

-- counting alone doesn't show the box to be empty
pub record IsRayless (I : Instance) (path : Path) : Type 0 where
  pub served : AreServed I path
  pub held : (i : ℕ) → i < length I.sites → IsTrue (is_opened path (site_at I i)) → IsTrue (holds_demand (site_at I i).cap (forced_demand I path i))
  pub few : length (opened_places I path) ≤ I.hi
  pub enough : I.lo ≤ possible_count I path
