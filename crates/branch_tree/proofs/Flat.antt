-- What the list of a tree's nodes says of the tree.
use Rattle.std.proofs.Common.{◌≡◌, ℕ, ◌+◌, ◌*◌, refl, arith, List, [], ◌∷◌, ◌++◌, length, length-append, map}
use Rattle.std.specs.Prelude.{All}
use Rattle.std.proofs.lemmas.List.{map-append}
use Rattle.std.proofs.lemmas.List.Elements.{All-nil, All-cons, All-head, All-tail, All-append}
use Rattle.location_terms.specs.Box.{Path}
use Rattle.location_terms.specs.Split.{first_step, second_step}
use Rattle.location_terms.specs.Tree.{Node, Leaf, Fork, leaves_below, size_of, SplitsAmong, HasLists}
use Rattle.branch_tree.specs.declared.entry.Entry.TheVariants.{End, Branch}
use Rattle.branch_tree.specs.Preorder.{flat, IsSound}
use Rattle.branch_tree.specs.Leaf.{leaf_total}
use Rattle.branch_tree.specs.Made.{nodes_shown, entry_shown}

pub all_parts : {X : Type 0} (P : X → Type 0) (xs ys : List X) → All P (xs ++ ys) → All P xs × All P ys
all_parts P [] ys h = (All-nil P, h)
all_parts P (x ∷ xs) ys h =
    let rest = all_parts P xs ys (All-tail P x (xs ++ ys) h) in
    (All-cons P x xs (All-head P x (xs ++ ys) h) rest.0, rest.1)

pub length-flat : (t : Node) → length (flat t) ≡ size_of t
length-flat (Leaf d) = refl
length-flat (Fork split a b) = omega (arith, length-append (flat a) (flat b), length-flat a, length-flat b)

-- one leaf more than splits
pub leaves_and_splits : (t : Node) (path : Path) → 2 * length (leaves_below path t) ≡ size_of t + 1
leaves_and_splits (Leaf d) path = refl
leaves_and_splits (Fork split a b) path = omega (arith, length-append (leaves_below (path ++ first_step split ∷ []) a) (leaves_below (path ++ second_step split ∷ []) b), leaves_and_splits a (path ++ first_step split ∷ []), leaves_and_splits b (path ++ second_step split ∷ []))

-- as many leaves below any path
pub as_many : (t : Node) (path : Path) → length (leaves_below path t) ≡ leaf_total t
as_many t path = omega (arith, leaves_and_splits t path, leaves_and_splits t [])

pub nodes_shown-flat : (t : Node) → nodes_shown t ≡ map entry_shown (flat t)
nodes_shown-flat (Leaf d) = refl
nodes_shown-flat (Fork split a b) = rw (nodes_shown-flat a, nodes_shown-flat b, map-append entry_shown (flat a) (flat b)) refl

module _ (sites customers : List ℕ) where
  pub splits_sound : (t : Node) → All (IsSound sites customers) (flat t) → SplitsAmong sites customers t
  splits_sound (Leaf d) h = tt
  splits_sound (Fork split a b) h =
      let rest = all_parts (IsSound sites customers) (flat a) (flat b) (All-tail (IsSound sites customers) (Branch split) (flat a ++ flat b) h) in
      (All-head (IsSound sites customers) (Branch split) (flat a ++ flat b) h, splits_sound a rest.0, splits_sound b rest.1)

  pub leaves_sound : (t : Node) (path : Path) → All (IsSound sites customers) (flat t) → All (λ l. HasLists (length sites) (length customers) l.1) (leaves_below path t)
  leaves_sound (Leaf d) path h = All-cons (λ l. HasLists (length sites) (length customers) l.1) (path, d) [] (All-head (IsSound sites customers) (End d) [] h) (All-nil (λ l. HasLists (length sites) (length customers) l.1))
  leaves_sound (Fork split a b) path h =
      let rest = all_parts (IsSound sites customers) (flat a) (flat b) (All-tail (IsSound sites customers) (Branch split) (flat a ++ flat b) h) in
      All-append (λ l. HasLists (length sites) (length customers) l.1) _ _ (leaves_sound a (path ++ first_step split ∷ []) rest.0) (leaves_sound b (path ++ second_step split ∷ []) rest.1)
