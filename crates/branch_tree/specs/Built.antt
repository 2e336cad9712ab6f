-- What each leaf of a tree and each split has at its path.
use Rattle.std.specs.Prelude.{◌≡◌, ℕ, ◌-◌, [], ◌∷◌, ◌++◌}
use Rattle.location_terms.specs.declared.split.Split.{Split}
use Rattle.location_terms.specs.Box.{Path}
use Rattle.location_terms.specs.Split.{first_step, second_step}
use Rattle.location_terms.specs.Bound.{Duals}
use Rattle.location_terms.specs.Tree.{Node, Leaf, Fork}
use Rattle.branch_tree.specs.Leaf.{leaf_total}
use Rattle.branch_tree.specs.Growing.{Growing}

-- below the path, each leaf has P at its path, and each split has Q
abbrev pub IsBuiltOf : (Path → Duals → Type 0) → (Path → Split → Type 0) → Path → Node → Type 0
IsBuiltOf P Q path (Leaf d) = P path d
IsBuiltOf P Q path (Fork split first second) = Q path split × IsBuiltOf P Q (path ++ first_step split ∷ []) first × IsBuiltOf P Q (path ++ second_step split ∷ []) second

-- the same, but for as many leaves as are left, the first in preorder
abbrev pub IsBuiltBut : (Path → Duals → Type 0) → (Path → Split → Type 0) → ℕ → Path → Node → Type 0
IsBuiltBut P Q left path (Leaf d) = left ≡ 0 → P path d
IsBuiltBut P Q left path (Fork split first second) = Q path split × IsBuiltBut P Q left (path ++ first_step split ∷ []) first × IsBuiltBut P Q (left - leaf_total first) (path ++ second_step split ∷ []) second

-- each leaf of a growing tree has P, and each split has Q
abbrev pub IsBuiltIn : (Path → Duals → Type 0) → (Path → Split → Type 0) → Growing → Type 0
IsBuiltIn P Q g = IsBuiltOf P Q g.base g.tree.root

-- each leaf that is done has P, and each split has Q
abbrev pub IsDoneIn : (Path → Duals → Type 0) → (Path → Split → Type 0) → Growing → Type 0
IsDoneIn P Q g = IsBuiltBut P Q g.left g.base g.tree.root
