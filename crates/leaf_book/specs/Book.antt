-- The slacks and bounds that are kept of the leaves of a tree, as it is carried over to an instance.
use Rattle.std.specs.Prelude.{◌≡◌, ℕ, ◌≤◌, All, List, [], length, map, slice_index_or, Option, Some, pos}
use Rattle.location_terms.specs.declared.form.LeafForm.TheVariants.{Prices}
use Rattle.location_terms.specs.Instance.{Instance}
use Rattle.location_terms.specs.Box.{Path}
use Rattle.location_terms.specs.Bound.{Duals}
use Rattle.location_terms.specs.Tree.{Tree, leaves_of}
use Rattle.branch_tree.specs.Made.{duals_at}
use Rattle.leaf_repair.specs.CarriedTree.{carried_tree}
use Rattle.leaf_book.specs.Sums.{LeafSums, sums_of}
use Rattle.leaf_book.specs.declared.places.LeafPlace.{LeafPlace}

-- The leaves of a tree by their places, what is kept of those of the carried tree, in preorder, the numbers of open sites for which the bounds stand, and for how many sites and
-- customers there is room.
pub record Book : Type 0 where
  pub places : List LeafPlace
  pub leaves : List LeafSums
  pub lo : ℕ
  pub hi : ℕ
  pub site_room : ℕ
  pub customer_room : ℕ

-- what stands at a place: the path, and the duals of the node
abbrev pub placed_leaf : Tree → LeafPlace → Path × Option Duals
placed_leaf t p = (p.path, duals_at t.root p.node)

-- these are the places of the tree's leaves, in preorder
abbrev pub AreLeafPlaces : Tree → List LeafPlace → Type 0
AreLeafPlaces t places = map (placed_leaf t) places ≡ map (λ l. (l.0, Some l.1)) (leaves_of t)

-- each leaf of the tree takes prices of capacities
abbrev pub IsByPrices : Tree → Type 0
IsByPrices t = All (λ l. l.1.form ≡ Prices) (leaves_of t)

-- the book is that of the tree on the instance: it has the sums of each leaf of the carried tree
pub record IsBookOf (b : Book) (I : Instance) (t : Tree) : Type 0 where
  pub by_prices : IsByPrices t
  pub places : AreLeafPlaces t b.places
  pub leaves : b.leaves ≡ map (sums_of I) (leaves_of (carried_tree I t))
  pub lo : b.lo ≡ I.lo
  pub hi : b.hi ≡ I.hi

-- the book has room for the sites and the customers of the instance, in each leaf of the tree
pub record HasRoomFor (b : Book) (I : Instance) : Type 0 where
  pub sites : length I.sites ≤ b.site_room
  pub customers : length I.customers ≤ b.customer_room

-- no less room than before
pub record HasNoLessRoom (old new : Book) : Type 0 where
  pub sites : old.site_room ≤ new.site_room
  pub customers : old.customer_room ≤ new.customer_room

-- what is kept of the leaf at a place of the carried tree
abbrev pub sums_at : Book → ℕ → LeafSums
sums_at b k = slice_index_or b.leaves k (record { q = 0; slacks = []; bound = pos 0 })
