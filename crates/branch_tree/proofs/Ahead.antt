-- A walk in preorder comes to the leaves of the tree.
use Rattle.std.proofs.Common.{◌≡◌, ℕ, refl, sym, ap, ◌∙◌, List, [], ◌∷◌, ◌++◌, Some, None}
use Rattle.std.specs.Prelude.{unwrap_or}
use Rattle.std.proofs.lemmas.List.{append_assoc, append-nil}
use Rattle.location_terms.specs.declared.decision.Decision.{Decision}
use Rattle.location_terms.specs.declared.split.Split.{Split}
use Rattle.location_terms.specs.declared.split.Split.TheVariants.{Site, Lane}
use Rattle.location_terms.specs.Box.{Path}
use Rattle.location_terms.specs.Split.{first_step, second_step}
use Rattle.location_terms.specs.Tree.{Node, Leaf, Fork, leaves_below, leaves_of}
use Rattle.branch_tree.specs.declared.entry.Entry.{Entry}
use Rattle.branch_tree.specs.Preorder.{flat, tree_of, IsStored}
use Rattle.branch_tree.specs.Walk.{second_child, one_step, turned_within, turned, next, leaves_ahead}
use Rattle.branch_tree.proofs.Stored.{seen}

pub turned_first : (d e : Decision) (path : Path) → second_child d ≡ Some e → turned (path ++ d ∷ []) ≡ Some (path ++ e ∷ [])
unfolding turned
turned_first d e [] h = ap one_step h
turned_first d e (x ∷ xs) h = ap (turned_within x) (turned_first d e xs h)

pub turned_second : (d : Decision) (path : Path) → second_child d ≡ None → turned (path ++ d ∷ []) ≡ turned path
unfolding turned
turned_second d [] h = ap one_step h
turned_second d (x ∷ xs) h = ap (turned_within x) (turned_second d xs h)

pub next_first : (d e : Decision) (path : Path) → second_child d ≡ Some e → next (path ++ d ∷ []) ≡ path ++ e ∷ []
unfolding next
next_first d e path h = ap (λ o. unwrap_or o []) (turned_first d e path h)

pub next_second : (d : Decision) (path : Path) → second_child d ≡ None → next (path ++ d ∷ []) ≡ next path
unfolding next
next_second d path h = ap (λ o. unwrap_or o []) (turned_second d path h)

pub next_some : (path after : Path) → turned path ≡ Some after → after ≡ next path
unfolding next
next_some path after h = sym (ap (λ o. unwrap_or o []) h)

pub next_none : (path : Path) → turned path ≡ None → [] ≡ next path
unfolding next
next_none path h = sym (ap (λ o. unwrap_or o []) h)

pub turned_root : turned [] ≡ None
unfolding turned
turned_root = refl

pub next_root : next [] ≡ []
unfolding next turned
next_root = refl

pub then_second : (split : Split) → second_child (first_step split) ≡ Some (second_step split)
then_second (Site s) = refl
then_second (Lane s c) = refl

pub then_none : (split : Split) → second_child (second_step split) ≡ None
then_none (Site s) = refl
then_none (Lane s c) = refl

-- from the first child of a split to its second
pub next_child : (split : Split) (path : Path) → next (path ++ first_step split ∷ []) ≡ path ++ second_step split ∷ []
next_child split path = next_first (first_step split) (second_step split) path (then_second split)

-- and on behind the split
pub next_behind : (split : Split) (path : Path) → next (path ++ second_step split ∷ []) ≡ next path
next_behind split path = next_second (second_step split) path (then_none split)

pub ahead-flat : (t : Node) (path : Path) (es : List Entry) → leaves_ahead path (flat t ++ es) ≡ leaves_below path t ++ leaves_ahead (next path) es
ahead-flat (Leaf d) path es = refl
ahead-flat (Fork split a b) path es =
    ap (leaves_ahead (path ++ first_step split ∷ [])) (append_assoc (flat a) (flat b) es)
    ∙ ahead-flat a (path ++ first_step split ∷ []) (flat b ++ es)
    ∙ ap (λ xs. leaves_below (path ++ first_step split ∷ []) a ++ xs) (ap (λ p. leaves_ahead p (flat b ++ es)) (next_child split path) ∙ ahead-flat b (path ++ second_step split ∷ []) es ∙ ap (λ p. leaves_below (path ++ second_step split ∷ []) b ++ leaves_ahead p es) (next_behind split path))
    ∙ sym (append_assoc (leaves_below (path ++ first_step split ∷ []) a) (leaves_below (path ++ second_step split ∷ []) b) (leaves_ahead (next path) es))

pub ahead_from_root : (t : Node) → leaves_ahead [] (flat t) ≡ leaves_below [] t
ahead_from_root t = ap (leaves_ahead []) (sym (append-nil (flat t))) ∙ ahead-flat t [] [] ∙ append-nil (leaves_below [] t)

pub leaves_stored : {S C : List ℕ} {n : List Entry} → IsStored S C n → leaves_ahead [] n ≡ leaves_of (seen S C n)
leaves_stored {S} {C} {n} stored = ap (leaves_ahead []) stored.whole ∙ ahead_from_root (tree_of n)
