-- For private functions alone: no public contract cites this page.
-- Which leaves of a tree are left when it is carried over to an instance, and what a book has of them.
use Rattle.std.specs.Prelude.{ℕ, ◌+◌, ◌-◌, ◌*◌, ◌/◌, Bool, true, ◌&&◌, List, [], ◌∷◌, length, map, filter, nat_lt, if◌then◌else◌}
use Rattle.std.specs.List.{list_all}
use Rattle.location_terms.specs.Instance.{Instance, site_ids, customer_ids}
use Rattle.location_terms.specs.declared.decision.Decision.{Decision}
use Rattle.location_terms.specs.declared.decision.Decision.TheVariants.{Opened, Closed, Yes, No}
use Rattle.location_terms.specs.Box.{Path}
use Rattle.location_terms.specs.Bound.{Duals}
use Rattle.location_terms.specs.Carried.{is_listed}
use Rattle.location_terms.specs.Tree.{Tree, leaves_of}
use Rattle.dual_value.specs.Zeros.{zeros}
use Rattle.branch_tree.specs.declared.limits.TheConstants.{MAX_TREE_NUMBERS}
use Rattle.leaf_repair.specs.CarriedTree.{carried_duals}
use Rattle.leaf_book.specs.Sums.{LeafSums, sums_of}

-- a step to a first child is always kept, one to a second child where what it names is among these ids
abbrev pub keeps_among : List ℕ → List ℕ → Decision → Bool
keeps_among sites customers (Opened s) = is_listed sites s
keeps_among sites customers (Closed s) = true
keeps_among sites customers (Yes s c) = is_listed sites s && is_listed customers c
keeps_among sites customers (No s c) = true

-- the same where the instance has what it names
abbrev pub keeps_step : Instance → Decision → Bool
keeps_step I d = keeps_among (site_ids I) (customer_ids I) d

-- the carried tree has the leaf to which the path leads
abbrev pub keeps : Instance → Path → Bool
keeps I path = list_all (keeps_step I) path

abbrev pub kept_leaves : Instance → List (Path × Duals) → List (Path × Duals)
kept_leaves I leaves = filter (λ l. keeps I l.0) leaves

-- the sums of a leaf of the tree, by its whole path
abbrev pub carried_sums : Instance → Tree → Path × Duals → LeafSums
carried_sums I t l = sums_of I (l.0, carried_duals I t.sites t.customers l.1)

-- a tree of so many leaves is too large: they and the splits come to two for each leaf, less one
abbrev pub are_too_many_leaves : Instance → ℕ → Bool
are_too_many_leaves I leaves = nat_lt (MAX_TREE_NUMBERS / (length I.sites + length I.customers)) (4 * leaves - 2)

-- the sums of the root leaf of zeros
abbrev pub root_sums : Instance → LeafSums
root_sums I = sums_of I ([], zeros I 1)

-- all that a book of the tree has
abbrev pub due_sums : Instance → Tree → List LeafSums
due_sums I t = if are_too_many_leaves I (length (kept_leaves I (leaves_of t))) then root_sums I ∷ [] else map (carried_sums I t) (kept_leaves I (leaves_of t))
