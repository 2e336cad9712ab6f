-- For private functions alone: no public contract cites this page.
-- The parts of a slack.
use Rattle.std.specs.Prelude.{◌≡◌, ℕ, ◌+◌, ◌*◌, ◌<◌, Bool, true, Option, None, Some, List, length, slice_index_or, unwrap_or, ℤ, pos, ◌+ℤ◌, ◌-ℤ◌, if◌then◌else◌}
use Rattle.std.specs.Int.Signed.{le_z}
use Rattle.std.specs.Int.{int_max, int_min}
use Rattle.location_terms.specs.Instance.{Instance, Site, Customer, site_at, customer_at, lane}
use Rattle.location_terms.specs.Box.{Path, is_allowed, is_opened, is_free}
use Rattle.location_terms.specs.Bound.{Duals, total, u_at, cap_price, paid_at}

-- what a customer of this dual pays above the level of its lane, at this scale and this price of the site's capacity
abbrev pub paid_above : Instance → Path → ℕ → ℕ → ℤ → ℕ → ℕ → ℤ
paid_above I path q price value i j = if is_allowed I path (site_at I i) (customer_at I j) then int_max (pos 0) (value -ℤ pos (q * unwrap_or (lane I (site_at I i).id (customer_at I j).id) 0 + price * (customer_at I j).demand)) else pos 0

-- there is no lane, or it costs as much as the dual
abbrev pub is_dear : ℕ → ℤ → Option ℕ → Bool
is_dear q value None = true
is_dear q value (Some cost) = le_z value (pos (q * cost))

-- the scaled fixed cost with the price on the number of sites, less the price of the capacity
abbrev pub priced_cost : Instance → Duals → ℕ → ℤ
priced_cost I d i = (pos (d.q * (site_at I i).fixed) +ℤ d.nu) -ℤ pos (cap_price (u_at d i) (site_at I i).cap)

-- what a customer of this dual pays above this level, where the box lets the site serve it
abbrev pub paid_over : Instance → Path → Site → Customer → ℤ → ℤ → ℤ
paid_over I path s c value level = if is_allowed I path s c then int_max (pos 0) (value -ℤ level) else pos 0

-- these numbers are what the first n customers leave of the priced costs of the sites, by place
pub record AreLeftBy (I : Instance) (path : Path) (d : Duals) (n : ℕ) (slacks : List ℤ) : Type 0 where
  pub count : length slacks ≡ length I.sites
  pub each : (i : ℕ) → i < length I.sites → slice_index_or slacks i (pos 0) ≡ priced_cost I d i -ℤ total (paid_at I path d i) n

-- what a site with this slack adds to the bound
abbrev pub share_with : Path → Site → ℤ → ℤ
share_with path s slack = if is_opened path s then slack else (if is_free path s then int_min (pos 0) slack else pos 0)
