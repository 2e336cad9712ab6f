-- For private functions alone: no public contract cites this page.
-- What is known of the rows of a tree's leaves, and of a book, before they follow a change.
use Rattle.std.specs.Prelude.{◌≡◌, ℕ, ◌≤◌, ◌<◌, true, false, List, [], length, slice_index_or}
use Rattle.location_terms.specs.Instance.{Instance}
use Rattle.location_terms.specs.Box.{Path}
use Rattle.location_terms.specs.Bound.{Duals}
use Rattle.location_terms.specs.Tree.{Tree, leaves_of}
use Rattle.dual_value.specs.Zeros.{zeros}
use Rattle.leaf_repair.specs.CarriedTree.{carried_duals}
use Rattle.instance_store.specs.Changes.{with_fixed, with_lane_cost}
use Rattle.leaf_book.specs.declared.change.Change.{Change}
use Rattle.leaf_book.specs.declared.change.Change.TheVariants.{Fixed, Lane, Site, Count, All}
use Rattle.leaf_book.specs.Book.{Book, IsBookOf}
use Rattle.leaf_book.specs.Changes.{DifferAtSite, DifferInCount}
use Rattle.leaf_book.specs.Due.{IsDue}
use Rattle.leaf_book.specs.Kept.{kept_leaves, are_too_many_leaves}
use Rattle.leaf_book.specs.Rows.{Held}

-- the same of the row of a leaf of the tree
abbrev pub IsLeafDue : Change → ℕ → ℕ → Instance → Tree → Path × Duals → Held → Type 0
IsLeafDue change lo hi I t l row = IsDue change lo hi I l.0 (carried_duals I t.sites t.customers l.1) row

-- there are rows for all these leaves, and each is due
pub record AreDue (change : Change) (lo hi : ℕ) (I : Instance) (t : Tree) (leaves : List (Path × Duals)) (rows : List Held) : Type 0 where
  pub enough : length leaves ≤ length rows
  pub each : (k : ℕ) (l : Path × Duals) (row : Held) → k < length leaves → IsLeafDue change lo hi I t (slice_index_or leaves k l) (slice_index_or rows k row)

-- the rows of the leaves that the carried tree has are due, or that of the root leaf of zeros
pub record AreRowsDue (change : Change) (lo hi : ℕ) (I : Instance) (t : Tree) (rows : List Held) : Type 0 where
  pub some : 0 < length rows
  pub root : are_too_many_leaves I (length (kept_leaves I (leaves_of t))) ≡ true → (row : Held) → IsDue change lo hi I [] (zeros I 1) (slice_index_or rows 0 row)
  pub leaves : are_too_many_leaves I (length (kept_leaves I (leaves_of t))) ≡ false → AreDue change lo hi I t (kept_leaves I (leaves_of t)) rows

-- the same of the book: it is that of the instance before the change, which differs in the part alone
abbrev pub IsBookDue : Change → Instance → Tree → Book → Type 0
IsBookDue (Fixed s cost) I t b = IsBookOf b (with_fixed I s cost) t
IsBookDue (Lane s c cost) I t b = IsBookOf b (with_lane_cost I s c cost) t
IsBookDue (Site s) I t b = (J : Instance) × DifferAtSite I J s × IsBookOf b J t
IsBookDue Count I t b = (J : Instance) × DifferInCount I J × IsBookOf b J t
IsBookDue All I t b = Unit {0}
