-- For private functions alone: no public contract cites this page.
-- What changes in stored rows when a customer comes or goes.
use Rattle.std.specs.Prelude.{◌≡◌, ℕ, ◌<◌, ◌≤◌, List, map, length, insert, remove, Option, None, slice_index_or}
use Rattle.instance_store.specs.declared.instance.StoredSite.{StoredSite}

-- the lanes of the rows at one place
abbrev pub column_in : List StoredSite → ℕ → List (Option ℕ)
column_in sites cust = map (λ s. slice_index_or s.row.lanes cust None) sites

-- the row without its lane at a place, and with one more
abbrev pub without_lane : ℕ → StoredSite → StoredSite
without_lane cust s = record s { row = record s.row { lanes = remove s.row.lanes cust } }

abbrev pub with_lane_at : ℕ → Option ℕ → StoredSite → StoredSite
with_lane_at place lane s = record s { row = record s.row { lanes = insert s.row.lanes place lane } }

-- the first n are changed so, each by its place, and the others are as they were
pub record AreChanged (n : ℕ) (change : ℕ → StoredSite → StoredSite) (old new : List StoredSite) : Type 0 where
  pub count : length new ≡ length old
  pub first : (i : ℕ) (d : StoredSite) → i < n → i < length old → slice_index_or new i d ≡ change i (slice_index_or old i d)
  pub others : (i : ℕ) (d : StoredSite) → n ≤ i → slice_index_or new i d ≡ slice_index_or old i d

-- the first n have no lane at a place any more
abbrev pub AreWithout : ℕ → ℕ → List StoredSite → List StoredSite → Type 0
AreWithout n cust old new = AreChanged n (λ i s. without_lane cust s) old new

-- the first n have one more lane each at a place
abbrev pub AreWith : ℕ → ℕ → List (Option ℕ) → List StoredSite → List StoredSite → Type 0
AreWith n place lanes old new = AreChanged n (λ i s. with_lane_at place (slice_index_or lanes i None) s) old new
