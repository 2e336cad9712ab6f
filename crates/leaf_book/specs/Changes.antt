-- What an edit, or taking it back, changes in a book.
use Rattle.std.specs.Prelude.{◌≡◌, ◌≢◌, ℕ, ◌<◌, length}
use Rattle.location_terms.specs.Instance.{Instance, site_at, site_ids, lane, fixed_of}
use Rattle.instance_store.specs.Changes.{with_fixed, with_lane_cost}
use Rattle.instance_edits.specs.declared.edit.Inverse.{Inverse}
use Rattle.instance_edits.specs.declared.edit.Inverse.TheVariants.{FormerFixed, FormerLane, FormerDemand, FormerCap, FormerCount, AddedSite, AddedCust, DroppedSite, DroppedCust, FormerStatus}
use Rattle.leaf_book.specs.declared.change.Change.{Change}
use Rattle.leaf_book.specs.declared.change.Change.TheVariants.{Fixed, Lane, Site, Count, All}

-- What the edit changed that this takes back. A fixed cost or a lane changes one term of one site's slack in each leaf, and its former amount tells by how much. A capacity changes that slack in
-- many terms, and the numbers of open sites change the bounds alone. All else may change all.
abbrev pub change_of : Inverse → Change
change_of (FormerFixed s cost) = Fixed s cost
change_of (FormerLane s c cost) = Lane s c cost
change_of (FormerDemand c demand) = All
change_of (FormerCap s cap) = Site s
change_of (FormerCount lo hi) = Count
change_of (AddedSite s) = All
change_of (AddedCust c) = All
change_of (DroppedSite place row status) = All
change_of (DroppedCust place row lanes) = All
change_of (FormerStatus s status) = All

-- the same change of this instance: the former amount is the one that it has
abbrev pub change_from : Instance → Change → Change
change_from I (Fixed s cost) = Fixed s (fixed_of I s)
change_from I (Lane s c cost) = Lane s c (lane I s c)
change_from I (Site s) = Site s
change_from I Count = Count
change_from I All = All

-- what taking an edit of this instance back changes
abbrev pub change_back : Instance → Inverse → Change
change_back I back = change_from I (change_of back)

-- the instances differ in the fixed cost, the capacity and the lanes of one site alone
pub record DifferAtSite (I J : Instance) (s : ℕ) : Type 0 where
  pub ids : site_ids I ≡ site_ids J
  pub customers : I.customers ≡ J.customers
  pub statuses : (i : ℕ) → i < length I.sites → (site_at I i).status ≡ (site_at J i).status
  pub others : (i : ℕ) → i < length I.sites → (site_at I i).id ≢ s → site_at I i ≡ site_at J i
  pub lanes : (a c : ℕ) → a ≢ s → lane I a c ≡ lane J a c
  pub lo : I.lo ≡ J.lo
  pub hi : I.hi ≡ J.hi

-- the instances differ in the numbers of open sites alone
pub record DifferInCount (I J : Instance) : Type 0 where
  pub sites : I.sites ≡ J.sites
  pub customers : I.customers ≡ J.customers
  pub lanes : I.lanes ≡ J.lanes

-- the second instance is the one before the change that led to the first: they differ in what the change names alone, and there the second has the former amount
abbrev pub DifferBy : Change → Instance → Instance → Type 0
DifferBy (Fixed s cost) I J = with_fixed I s cost ≡ J
DifferBy (Lane s c cost) I J = with_lane_cost I s c cost ≡ J
DifferBy (Site s) I J = DifferAtSite I J s
DifferBy Count I J = DifferInCount I J
DifferBy All I J = Unit {0}
