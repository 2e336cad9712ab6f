-- For private functions alone: no public contract cites this page.
-- What is known of the numbers of a head that was read.
use Rattle.std.specs.Prelude.{ℕ, ◌+◌, ◌≤◌}
use Rattle.location_terms.specs.declared.limits.TheConstants.{MAX_SITES, MAX_ID}
use Rattle.location_terms.specs.Instance.{AreSizes}

-- so many sites and customers with the next ids, and how many may be open
pub record IsHead (m n count : ℕ × ℕ) : Type 0 where
  pub sizes : AreSizes m.0 n.0
  pub site_next : 1 ≤ m.1
  pub site_next_small : m.1 ≤ MAX_ID + 1
  pub customer_next : 1 ≤ n.1
  pub customer_next_small : n.1 ≤ MAX_ID + 1
  pub order : count.0 ≤ count.1
  pub few : count.1 ≤ MAX_SITES
