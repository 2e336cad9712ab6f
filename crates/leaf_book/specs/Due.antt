-- For private functions alone: no public contract cites this page.
-- What is known of a row before it follows a change.
use Rattle.std.specs.Prelude.{◌≡◌, ◌≢◌, ℕ, ◌<◌, ◌≤◌, length}
use Rattle.location_terms.specs.Instance.{Instance, site_at}
use Rattle.location_terms.specs.Box.{Path}
use Rattle.location_terms.specs.Bound.{Duals, u_at}
use Rattle.instance_store.specs.Changes.{with_fixed, with_lane_cost}
use Rattle.leaf_book.specs.declared.change.Change.{Change}
use Rattle.leaf_book.specs.declared.change.Change.TheVariants.{Fixed, Lane, Site, Count, All}
use Rattle.leaf_book.specs.Sums.{sums_of}
use Rattle.leaf_book.specs.Changes.{DifferAtSite, DifferInCount}
use Rattle.leaf_book.specs.Rows.{Held}

-- the same duals on two instances that differ at one site, but for the price of its capacity
pub record AreTouched (I : Instance) (d : Duals) (J : Instance) (e : Duals) (s : ℕ) : Type 0 where
  pub instances : DifferAtSite I J s
  pub q : d.q ≡ e.q
  pub nu : d.nu ≡ e.nu
  pub v : d.v ≡ e.v
  pub u : (i : ℕ) → i < length I.sites → (site_at I i).id ≢ s → u_at d i ≡ u_at e i

-- Where a change is of a part, the row has the sums of the instance before it, which differs in that alone. Else it has room.
abbrev pub IsDue : Change → ℕ → ℕ → Instance → Path → Duals → Held → Type 0
IsDue (Fixed s cost) lo hi I path d row = row.sums ≡ sums_of (with_fixed I s cost) (path, d)
IsDue (Lane s c cost) lo hi I path d row = row.sums ≡ sums_of (with_lane_cost I s c cost) (path, d)
IsDue (Site s) lo hi I path d row = (J : Instance) × (e : Duals) × AreTouched I d J e s × (row.sums ≡ sums_of J (path, e))
IsDue Count lo hi I path d row = (J : Instance) × DifferInCount I J × (J.lo ≡ lo) × (J.hi ≡ hi) × (row.sums ≡ sums_of J (path, d))
IsDue All lo hi I path d row = length I.sites ≤ row.room
