-- Nodes whose walk ends with the last of them are those of one whole tree, and the other way round.
use Rattle.std.proofs.Common.{◌≡◌, ℕ, ◌+◌, suc, refl, sym, ap, subst, ◌∙◌, arith, List, [], ◌∷◌, ◌++◌, length, Option, Some, None}
use Rattle.std.proofs.lemmas.List.{append_assoc, append-nil}
use Rattle.location_terms.specs.declared.decision.Decision.{Decision}
use Rattle.location_terms.specs.declared.decision.Decision.TheVariants.{Opened, Closed, Yes, No}
use Rattle.location_terms.specs.declared.split.Split.{Split}
use Rattle.location_terms.specs.declared.split.Split.TheVariants.{Site, Lane}
use Rattle.location_terms.specs.Box.{Path}
use Rattle.location_terms.specs.Split.{first_step, second_step}
use Rattle.location_terms.specs.Tree.{Node, Leaf, Fork}
use Rattle.location_terms.specs.Bound.{Duals}
use Rattle.branch_tree.specs.declared.entry.Entry.{Entry}
use Rattle.branch_tree.specs.declared.entry.Entry.TheVariants.{End, Branch}
use Rattle.branch_tree.specs.Preorder.{flat, forest, joined, first_tree, tree_of, IsStored}
use Rattle.branch_tree.specs.Begun.{AreSound}
use Rattle.branch_tree.specs.Walk.{turned_within, turned, stepped, walked, IsWhole}
use Rattle.branch_tree.proofs.Ahead.{turned_first, turned_second, turned_root, then_second, then_none}

-- what holds of a walk behind a tree holds of it before the tree, if it is so with one entry
module _ (P : Option Path → List Entry → Type 0) (leaf : (d : Duals) (path : Path) (es : List Entry) → P (turned path) es → P (Some path) (End d ∷ es))
    (branch : (split : Split) (path : Path) (es : List Entry) → P (Some (path ++ first_step split ∷ [])) es → P (Some path) (Branch split ∷ es)) where
  before_tree : (t : Node) (path : Path) (es : List Entry) → P (turned path) es → P (Some path) (flat t ++ es)
  before_tree (Leaf d) path es h = leaf d path es h
  before_tree (Fork split a b) path es h =
      branch split path ((flat a ++ flat b) ++ es)
      (subst (P (Some (path ++ first_step split ∷ []))) (sym (append_assoc (flat a) (flat b) es))
      (before_tree a (path ++ first_step split ∷ []) (flat b ++ es)
      (subst (λ o. P o (flat b ++ es)) (sym (turned_first (first_step split) (second_step split) path (then_second split)))
      (before_tree b (path ++ second_step split ∷ []) es
      (subst (λ o. P o es) (sym (turned_second (second_step split) path (then_none split))) h)))))

-- a walk over a tree comes to what follows the tree
pub walked-flat : (t : Node) (path : Path) (es : List Entry) → walked (Some path) (flat t ++ es) ≡ walked (turned path) es
walked-flat t path es = before_tree (λ o xs. walked o xs ≡ walked (turned path) es) (λ d p xs h. h) (λ s p xs h. h) t path es refl

-- a tree, and then what makes the rest whole
pub whole_after-flat : (t : Node) (path : Path) (es : List Entry) → IsWhole (turned path) es → IsWhole (Some path) (flat t ++ es)
whole_after-flat = before_tree IsWhole (λ d p xs h. h) (λ s p xs h. h)

-- the nodes of a tree are whole
pub whole-flat : (t : Node) → IsWhole (Some []) (flat t)
whole-flat t = subst (IsWhole (Some [])) (append-nil (flat t)) (whole_after-flat t [] [] (subst (λ o. IsWhole o []) (sym turned_root) tt))

-- how many splits above have their second child still to come
abbrev firsts : Path → ℕ
firsts [] = 0
firsts (Closed s ∷ ds) = suc (firsts ds)
firsts (No s c ∷ ds) = suc (firsts ds)
firsts (Opened s ∷ ds) = firsts ds
firsts (Yes s c ∷ ds) = firsts ds

-- how many trees are still to come
abbrev due : Option Path → ℕ
due None = 0
due (Some path) = suc (firsts path)

firsts-cons : (d : Decision) (ds : Path) → firsts (d ∷ ds) ≡ firsts (d ∷ []) + firsts ds
firsts-cons (Closed s) ds = omega arith
firsts-cons (No s c) ds = omega arith
firsts-cons (Opened s) ds = omega arith
firsts-cons (Yes s c) ds = omega arith

first_counted : (split : Split) → firsts (first_step split ∷ []) ≡ 1
first_counted (Site s) = refl
first_counted (Lane s c) = refl

firsts_more : (path : Path) (d : Decision) → firsts (path ++ d ∷ []) ≡ firsts path + firsts (d ∷ [])
firsts_more [] d = omega arith
firsts_more (x ∷ xs) d = omega (arith, firsts-cons x (xs ++ d ∷ []), firsts-cons x xs, firsts_more xs d)

due_within : (d : Decision) (o : Option Path) → due (turned_within d o) ≡ firsts (d ∷ []) + due o
due_within (Closed s) None = refl
due_within (No s c) None = refl
due_within (Opened s) None = refl
due_within (Yes s c) None = refl
due_within (Closed s) (Some rest) = omega arith
due_within (No s c) (Some rest) = omega arith
due_within (Opened s) (Some rest) = omega arith
due_within (Yes s c) (Some rest) = omega arith

due_turned : (path : Path) → due (turned path) ≡ firsts path
unfolding turned
due_turned [] = refl
due_turned (d ∷ ds) = omega (arith, due_within d (turned ds), due_turned ds, firsts-cons d ds)

-- the nodes of trees one after another
abbrev flats : List Node → List Entry
flats [] = []
flats (t ∷ ts) = flat t ++ flats ts

branch_parsed : (split : Split) (es : List Entry) (ts : List Node) (n : ℕ) → es ≡ flats ts → length ts ≡ suc (suc n) → (Branch split ∷ es ≡ flats (joined split ts)) × (length (joined split ts) ≡ suc n)
branch_parsed split es [] n e h = absurd (omega arith)
branch_parsed split es (a ∷ []) n e h = absurd (omega arith)
branch_parsed split es (a ∷ b ∷ ts) n e h = (ap (λ xs. Branch split ∷ xs) (e ∙ sym (append_assoc (flat a) (flat b) (flats ts))), omega arith)

-- what a walk takes for whole are as many trees as were still to come
parsed : (at : Option Path) (es : List Entry) → IsWhole at es → (es ≡ flats (forest es)) × (length (forest es) ≡ due at)
parsed None [] h = (refl, refl)
parsed None (e ∷ es) h = absurd h
parsed (Some p) [] h = absurd h
parsed (Some p) (End d ∷ es) h =
    let rest = parsed (turned p) es h in
    (ap (λ xs. End d ∷ xs) rest.0, omega (arith, rest.1, due_turned p))
parsed (Some p) (Branch split ∷ es) h =
    let rest = parsed (Some (p ++ first_step split ∷ [])) es h in
    branch_parsed split es (forest es) (firsts p) rest.0 (omega (arith, rest.1, firsts_more p (first_step split), first_counted split))

one_tree : (ts : List Node) (es : List Entry) → es ≡ flats ts → length ts ≡ 1 → es ≡ flat (first_tree ts)
one_tree [] es e h = absurd (omega arith)
one_tree (t ∷ []) es e h = e ∙ append-nil (flat t)
one_tree (t ∷ u ∷ ts) es e h = absurd (omega arith)

-- nodes that are whole are those of one tree
pub flat-whole : (es : List Entry) → IsWhole (Some []) es → es ≡ flat (tree_of es)
unfolding tree_of
flat-whole es h = let all = parsed (Some []) es h in one_tree (forest es) es all.0 all.1

walked_none : (at : Option Path) → walked at [] ≡ at
walked_none None = refl
walked_none (Some path) = refl

-- one node more, for whoever keeps the path
pub walked_more : (at : Option Path) (es : List Entry) (path : Path) (e : Entry) → walked at es ≡ Some path → walked at (es ++ e ∷ []) ≡ stepped path e
walked_more None [] path e h = cc
walked_more None (x ∷ xs) path e h = cc
walked_more (Some p) [] path e h = let same : p ≡ path = cc in walked_none (stepped p e) ∙ ap (λ q. stepped q e) same
walked_more (Some p) (x ∷ xs) path e h = walked_more (stepped p x) xs path e h

-- the leaf that ends the whole tree
pub whole_with : (at : Option Path) (es : List Entry) (path : Path) (d : Duals) → walked at es ≡ Some path → turned path ≡ None → IsWhole at (es ++ End d ∷ [])
whole_with None [] path d h k = absurd cc
whole_with None (x ∷ xs) path d h k = absurd cc
whole_with (Some p) [] path d h k = let same : p ≡ path = cc in subst (λ o. IsWhole o []) (sym (ap turned same ∙ k)) tt
whole_with (Some p) (x ∷ xs) path d h k = whole_with (stepped p x) xs path d h k

-- a whole walk comes to nothing more
pub walked_whole : (at : Option Path) (es : List Entry) → IsWhole at es → walked at es ≡ None
walked_whole None [] h = refl
walked_whole None (e ∷ es) h = absurd h
walked_whole (Some p) [] h = absurd h
walked_whole (Some p) (e ∷ es) h = walked_whole (stepped p e) es h

pub whole_stored : {S C : List ℕ} {n : List Entry} → AreSound S C n → IsWhole (Some []) n → IsStored S C n
whole_stored {S} {C} {n} sound whole = record { whole = flat-whole n whole; sound = sound.sound; few = sound.few }
