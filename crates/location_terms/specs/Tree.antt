-- Trees of boxes: a leaf has duals, a split has two children that together hold every plan of its box.
use Rattle.std.specs.Prelude.{◌≡◌, ℕ, ◌+◌, List, [], ◌∷◌, ◌++◌, length, All, Option, ℤ, pos, negsuc, min, fold, filter, nat_lt, ◌/◌, ◌-◌}
use Rattle.location_terms.specs.declared.split.Split.{Split}
use Rattle.location_terms.specs.declared.limits.TheConstants.{MAX_COST}
use Rattle.location_terms.specs.Instance.{Instance, site_ids, customer_ids}
use Rattle.location_terms.specs.Box.{Path}
use Rattle.location_terms.specs.Split.{first_step, second_step, IsSplitAmong}
use Rattle.location_terms.specs.Bound.{Duals}
use Rattle.location_terms.specs.Fit.{AreInLimits}
use Rattle.location_terms.specs.Leaf.{leaf_bound, PricesSuit, LeafCloses}

-- a leaf, or a split with its first and its second child
pub data Node : Type 0 where
  Leaf : Duals → Node
  Fork : Split → (first second : Node) → Node

-- a tree, and the ids of the sites and customers by which its duals' lists are read
pub record Tree : Type 0 where
  pub sites : List ℕ
  pub customers : List ℕ
  pub root : Node

-- the leaves below a path, in preorder: for each the path of its box, and its duals
abbrev pub leaves_below : Path → Node → List (Path × Duals)
leaves_below path (Leaf d) = (path, d) ∷ []
leaves_below path (Fork split first second) = leaves_below (path ++ first_step split ∷ []) first ++ leaves_below (path ++ second_step split ∷ []) second

abbrev pub leaves_of : Tree → List (Path × Duals)
leaves_of t = leaves_below [] t.root

-- leaves and splits
abbrev pub size_of : Node → ℕ
size_of (Leaf d) = 1
size_of (Fork split first second) = 1 + size_of first + size_of second

abbrev pub nodes_of : Tree → ℕ
nodes_of t = size_of t.root

-- each split names a site, and a customer, of these
abbrev pub SplitsAmong : List ℕ → List ℕ → Node → Type 0
SplitsAmong sites customers (Leaf d) = Unit {0}
SplitsAmong sites customers (Fork split first second) = IsSplitAmong sites customers split × SplitsAmong sites customers first × SplitsAmong sites customers second

-- each leaf has a number for each site and customer, within the limits, and where it takes whole knapsacks no prices
abbrev pub HasLists : ℕ → ℕ → Duals → Type 0
HasLists m n d = (length d.u ≡ m) × (length d.v ≡ n) × AreInLimits d × PricesSuit d.form d.u

pub record IsTree (t : Tree) : Type 0 where
  pub splits : SplitsAmong t.sites t.customers t.root
  pub leaves : All (λ l. HasLists (length t.sites) (length t.customers) l.1) (leaves_of t)

-- the tree's ids are those of the instance
pub record StandsOn (t : Tree) (I : Instance) : Type 0 where
  pub sites : t.sites ≡ site_ids I
  pub customers : t.customers ≡ customer_ids I

-- every leaf closes against the target, or without one
abbrev pub AllClose : Instance → Tree → Option ℕ → Type 0
AllClose I t target = All (λ l. LeafCloses I l.0 l.1 target) (leaves_of t)

-- the least whole number that is at least bound / q, 0 where that is below 0, at most MAX_COST
abbrev pub low_end : ℤ → ℕ → ℕ
low_end (pos b) q = min ((b + (q - 1)) / q) MAX_COST
low_end (negsuc b) q = 0

-- The low end that the tree shows: the least over the leaves with a scale, and MAX_COST where there is none.
abbrev pub low_of : Instance → Tree → ℕ
low_of I t = fold (λ least l. min least (low_end (leaf_bound I l.0 l.1) l.1.q)) MAX_COST (filter (λ l. nat_lt 0 l.1.q) (leaves_of t))
