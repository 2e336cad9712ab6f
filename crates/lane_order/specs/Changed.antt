-- Instances that differ in one lane alone, or in one site or customer with its lanes.
use Rattle.std.specs.Prelude.{◌≡◌, ◌↔◌, ℕ, ◌<◌, ◌≤◌, List, length, insert, Contains, Option, None, Some, slice_index_or}
use Rattle.location_terms.specs.Instance.{Instance, site_ids, customer_ids, site_at, customer_at, lane}

-- the lane from the site of this id is this one, or there is none
abbrev pub IsLaneTo : ℕ → Option ℕ → List (ℕ × ℕ) → Type 0
IsLaneTo s lane lanes = (cost : ℕ) → Contains lanes (cost, s) ↔ (lane ≡ Some cost)

-- the lane from the site at place i to the customer at place j is the given one in J, and all other lanes are those of I
pub record DifferInLane (I J : Instance) (i j : ℕ) (given : Option ℕ) : Type 0 where
  pub sites : site_ids J ≡ site_ids I
  pub customers : customer_ids J ≡ customer_ids I
  pub changed : lane J (site_at I i).id (customer_at I j).id ≡ given
  pub others : (s c : ℕ) → ((s ≡ (site_at I i).id) × (c ≡ (customer_at I j).id) → ⊥) → lane J s c ≡ lane I s c

-- J has besides the sites of I one of this id at the place, with these lanes to the customers by their places
pub record HasSiteMore (I J : Instance) (place s : ℕ) (lanes : List (Option ℕ)) : Type 0 where
  pub within : place ≤ length I.sites
  pub sites : site_ids J ≡ insert (site_ids I) place s
  pub customers : customer_ids J ≡ customer_ids I
  pub own : (j : ℕ) → j < length I.customers → lane J s (customer_at I j).id ≡ slice_index_or lanes j None
  pub others : (t c : ℕ) → (t ≡ s → ⊥) → lane J t c ≡ lane I t c

-- J has besides the customers of I one of this id at the place, with these lanes from the sites by their places
pub record HasCustMore (I J : Instance) (place c : ℕ) (lanes : List (Option ℕ)) : Type 0 where
  pub within : place ≤ length I.customers
  pub sites : site_ids J ≡ site_ids I
  pub customers : customer_ids J ≡ insert (customer_ids I) place c
  pub own : (i : ℕ) → i < length I.sites → lane J (site_at I i).id c ≡ slice_index_or lanes i None
  pub others : (s d : ℕ) → (d ≡ c → ⊥) → lane J s d ≡ lane I s d
