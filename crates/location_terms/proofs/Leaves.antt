-- The children of a split hold every plan of its box, since a plan opens a site or does not, and uses a lane or does not.
use Rattle.std.proofs.Common.{◌⊎◌, refl, inl, inr, arith, List, [], ◌∷◌, ◌++◌}
use Rattle.std.specs.Prelude.{Contains}
use Rattle.std.proofs.lemmas.List.Elements.{All-push, All-nil, Contains-append_left, Contains-append_right}
use Rattle.location_terms.specs.declared.split.Split.{Split}
use Rattle.location_terms.specs.declared.split.Split.TheVariants.{Site, Lane}
use Rattle.location_terms.specs.Plan.{Plan}
use Rattle.location_terms.specs.Box.{Path, IsKept, IsInBox}
use Rattle.location_terms.specs.Bound.{Duals}
use Rattle.location_terms.specs.Split.{first_step, second_step}
use Rattle.location_terms.specs.Tree.{Node, Leaf, Fork, Tree, leaves_below, leaves_of}
use Rattle.location_terms.proofs.Membership.{has_or_lacks, has_or_lacks_pair}

-- some leaf of these has the plan in its box
abbrev pub IsCovered : Plan → List (Path × Duals) → Type 0
IsCovered P leaves = (l : Path × Duals) × Contains leaves l × IsInBox P l.0

in_first : (P : Plan) (xs ys : List (Path × Duals)) → IsCovered P xs → IsCovered P (xs ++ ys)
in_first P xs ys here = (here.0, Contains-append_left xs ys here.0 here.1, here.2)

in_second : (P : Plan) (xs ys : List (Path × Duals)) → IsCovered P ys → IsCovered P (xs ++ ys)
in_second P xs ys here = (here.0, Contains-append_right xs ys here.0 here.1, here.2)

-- of each plan the decision of one child is true
one_is_kept : (P : Plan) (split : Split) → IsKept P (second_step split) ⊎ IsKept P (first_step split)
one_is_kept P (Site s) = has_or_lacks P.sites s
one_is_kept P (Lane s c) = has_or_lacks_pair P.serves (c, s)

-- a split passes a plan on to the child whose decision is true of it
covered_below : (P : Plan) (n : Node) (path : Path) → IsInBox P path → IsCovered P (leaves_below path n)
covered_below P (Leaf d) path in_box = ((path, d), (0, omega arith, refl), in_box)
covered_below P (Fork split first second) path in_box =
    elim (one_is_kept P split) [
      | inl kept ↦ in_second P _ _ (covered_below P second (path ++ second_step split ∷ []) (All-push (IsKept P) path (second_step split) in_box kept))
      | inr kept ↦ in_first P _ _ (covered_below P first (path ++ first_step split ∷ []) (All-push (IsKept P) path (first_step split) in_box kept))
    ]

-- every plan is in the box of a leaf
pub covered : (t : Tree) (P : Plan) → IsCovered P (leaves_of t)
covered t P = covered_below P t.root [] (All-nil (IsKept P))
