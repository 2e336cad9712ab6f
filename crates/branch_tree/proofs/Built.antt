-- What each leaf and each split of a growing tree has, from step to step.
use Rattle.std.proofs.Common.{◌≡◌, ℕ, ◌+◌, ◌-◌, ◌<◌, ◌≤◌, zero, suc, sym, ap, subst, ◌∙◌, inl, inr, arith, cond, [], ◌∷◌, ◌++◌, length-append, Option, Some, None, option_map}
use Rattle.std.specs.Prelude.{All, slice_get}
use Rattle.std.proofs.lemmas.Bool.{cases_lt, lt-ltb, le-ltb}
use Rattle.std.proofs.lemmas.List.Elements.{All-append, All-cons, All-nil}
use Rattle.location_terms.specs.declared.split.Split.{Split}
use Rattle.location_terms.specs.Instance.{Instance}
use Rattle.location_terms.specs.Box.{Path}
use Rattle.location_terms.specs.Split.{first_step, second_step}
use Rattle.location_terms.specs.Bound.{Duals}
use Rattle.location_terms.specs.Tree.{Node, Leaf, Fork, leaves_below}
use Rattle.branch_tree.specs.Leaf.{leaf_total, replaced}
use Rattle.branch_tree.specs.Growing.{Growing, leaf_at_work, worked, growing_from, split_in_two}
use Rattle.branch_tree.specs.Built.{IsBuiltOf, IsBuiltBut, IsBuiltIn, IsDoneIn}
use Rattle.branch_tree.proofs.Flat.{as_many}
use Rattle.branch_tree.proofs.Spliced.{get_left, get_right}

-- the leaf of which the path and the duals are known
pub leaf_is : (o : Option (Path × Duals)) (path : Path) (d : Duals) → option_map (λ l. l.0) o ≡ Some path → option_map (λ l. l.1) o ≡ Some d → o ≡ Some (path, d)
leaf_is None path d h k = cc
leaf_is (Some l) path d h k =
    let one : l.0 ≡ path = cc in
    let other : l.1 ≡ d = cc in
    ap (λ p. Some (p, l.1)) one ∙ ap (λ e. Some (path, e)) other

pub one_leaf_is : (l m : Path × Duals) → Some l ≡ Some m → l ≡ m
one_leaf_is l m h = cc

-- leaf k of two trees, side by side
abbrev Leads : Node → Path → ℕ → Path → Duals → Type 0
Leads t path k p d = slice_get (leaves_below path t) k ≡ Some (p, d)

module _ (a b : Node) (path_a path_b p : Path) (k : ℕ) (d : Duals) (here : slice_get (leaves_below path_a a ++ leaves_below path_b b) k ≡ Some (p, d)) where
  in_first : k < leaf_total a → Leads a path_a k p d
  in_first within = sym (get_left (leaves_below path_a a) (leaves_below path_b b) k (omega (arith, as_many a path_a))) ∙ here

  in_second : leaf_total a ≤ k → Leads b path_b (k - leaf_total a) p d
  in_second past = sym (get_right (leaves_below path_a a) (leaves_below path_b b) k (k - leaf_total a) (omega (arith, as_many a path_a))) ∙ here

module _ (P : Path → Duals → Type 0) (Q : Path → Split → Type 0) where
  abbrev Of : Path → Node → Type 0
  Of = IsBuiltOf P Q

  abbrev But : ℕ → Path → Node → Type 0
  But = IsBuiltBut P Q

  -- where none is left
  pub built_whole : (t : Node) (path : Path) (left : ℕ) → left ≡ 0 → IsBuiltBut P Q left path t → IsBuiltOf P Q path t
  built_whole (Leaf d) path left none h = h none
  built_whole (Fork s a b) path left none h = (h.0, built_whole a (path ++ first_step s ∷ []) left none h.1, built_whole b (path ++ second_step s ∷ []) (left - leaf_total a) (omega arith) h.2)

  pub built_but_any : (t : Node) (path : Path) (left : ℕ) → IsBuiltOf P Q path t → IsBuiltBut P Q left path t
  built_but_any (Leaf d) path left h = λ none. h
  built_but_any (Fork s a b) path left h = (h.0, built_but_any a (path ++ first_step s ∷ []) left h.1, built_but_any b (path ++ second_step s ∷ []) (left - leaf_total a) h.2)

  -- all the leaves of what is built
  pub built_leaves : (t : Node) (path : Path) → IsBuiltOf P Q path t → All (λ l. P l.0 l.1) (leaves_below path t)
  built_leaves (Leaf d) path h = All-cons (λ l. P l.0 l.1) (path, d) [] h (All-nil (λ l. P l.0 l.1))
  built_leaves (Fork s a b) path h = All-append (λ l. P l.0 l.1) _ _ (built_leaves a (path ++ first_step s ∷ []) h.1) (built_leaves b (path ++ second_step s ∷ []) h.2)

  -- with more leaves left
  more_left : (t : Node) (path : Path) (m n : ℕ) → m ≤ n → But m path t → But n path t
  more_left (Leaf d) path m n less h = λ none. h (omega arith)
  more_left (Fork s a b) path m n less h = (h.0, more_left a (path ++ first_step s ∷ []) m n less h.1, more_left b (path ++ second_step s ∷ []) (m - leaf_total a) (n - leaf_total a) (omega arith) h.2)

  -- with all leaves left
  all_left : (t : Node) (path : Path) (m n : ℕ) → leaf_total t ≤ n → But m path t → But n path t
  all_left (Leaf d) path m n all h = λ none. absurd (omega arith)
  all_left (Fork s a b) path m n all h =
      let both : leaf_total a + leaf_total b ≤ n = omega (arith, length-append (leaves_below (first_step s ∷ []) a) (leaves_below (second_step s ∷ []) b), as_many a (first_step s ∷ []), as_many b (second_step s ∷ [])) in
      (h.0, all_left a (path ++ first_step s ∷ []) m n (omega arith) h.1, all_left b (path ++ second_step s ∷ []) (m - leaf_total a) (n - leaf_total a) (omega arith) h.2)

  -- the last of the leaves that are left is done
  module _ (p : Path) (d : Duals) (has : P p d) where
    abbrev Done : Node → Type 0
    Done t = (path : Path) (left k : ℕ) → left ≡ suc k → Leads t path k p d → But left path t → But k path t

    pub built_done : (t : Node) → Done t
    built_done (Leaf e) path left zero is here h = λ none. subst (λ (l : Path × Duals). P l.0 l.1) (sym (one_leaf_is (path, e) (p, d) here)) has
    built_done (Leaf e) path left (suc k) is here h = cc
    built_done (Fork s a b) path left k is here h =
        elim (cases_lt k (leaf_total a)) [
          | inl within ↦ (h.0, built_done a (path ++ first_step s ∷ []) left k is (in_first a b (path ++ first_step s ∷ []) (path ++ second_step s ∷ []) p k d here within) h.1, more_left b (path ++ second_step s ∷ []) (left - leaf_total a) (k - leaf_total a) (omega arith) h.2)
          | inr past ↦ (h.0, all_left a (path ++ first_step s ∷ []) left k past h.1, built_done b (path ++ second_step s ∷ []) (left - leaf_total a) (k - leaf_total a) (omega arith) (in_second a b (path ++ first_step s ∷ []) (path ++ second_step s ∷ []) p k d here past) h.2)
        ]

  -- another tree in the place of a leaf
  module _ (p : Path) (d : Duals) (part : Node) where
    -- of what is built
    module _ (has : Of p part) where
      abbrev Put : Node → Type 0
      Put t = (path : Path) (k : ℕ) → Leads t path k p d → Of path t → Of path (replaced t k part)

      pub built_with : (t : Node) → Put t
      built_with (Leaf e) path zero here h = subst (λ (l : Path × Duals). Of l.0 part) (sym (one_leaf_is (path, e) (p, d) here)) has
      built_with (Leaf e) path (suc k) here h = cc
      built_with (Fork s a b) path k here h =
          elim (cases_lt k (leaf_total a)) [
            | inl within ↦ subst (λ t. Of path (cond t (Fork s (replaced a k part) b) (Fork s a (replaced b (k - leaf_total a) part)))) (sym (lt-ltb k (leaf_total a) within))
                (h.0, built_with a (path ++ first_step s ∷ []) k (in_first a b (path ++ first_step s ∷ []) (path ++ second_step s ∷ []) p k d here within) h.1, h.2)
            | inr past ↦ subst (λ t. Of path (cond t (Fork s (replaced a k part) b) (Fork s a (replaced b (k - leaf_total a) part)))) (sym (le-ltb k (leaf_total a) past))
                (h.0, h.1, built_with b (path ++ second_step s ∷ []) (k - leaf_total a) (in_second a b (path ++ first_step s ∷ []) (path ++ second_step s ∷ []) p k d here past) h.2)
          ]

    -- of what is built but for the leaves that are left, of which it was the last
    module _ (more : ℕ) (has : But more p part) where
      abbrev PutLast : Node → Type 0
      PutLast t = (path : Path) (left k now : ℕ) → left ≡ suc k → now ≡ k + more → Leads t path k p d → But left path t → But now path (replaced t k part)

      pub built_but_with : (t : Node) → PutLast t
      built_but_with (Leaf e) path left zero now is then here h =
          let same : now ≡ more = omega arith in
          subst (λ (l : Path × Duals). But now l.0 part) (sym (one_leaf_is (path, e) (p, d) here)) (subst (λ m. But m p part) (sym same) has)
      built_but_with (Leaf e) path left (suc k) now is then here h = cc
      built_but_with (Fork s a b) path left k now is then here h =
          elim (cases_lt k (leaf_total a)) [
            | inl within ↦ subst (λ t. But now path (cond t (Fork s (replaced a k part) b) (Fork s a (replaced b (k - leaf_total a) part)))) (sym (lt-ltb k (leaf_total a) within))
                (h.0, built_but_with a (path ++ first_step s ∷ []) left k now is then (in_first a b (path ++ first_step s ∷ []) (path ++ second_step s ∷ []) p k d here within) h.1, more_left b (path ++ second_step s ∷ []) (left - leaf_total a) (now - leaf_total (replaced a k part)) (omega arith) h.2)
            | inr past ↦ subst (λ t. But now path (cond t (Fork s (replaced a k part) b) (Fork s a (replaced b (k - leaf_total a) part)))) (sym (le-ltb k (leaf_total a) past))
                (h.0, all_left a (path ++ first_step s ∷ []) left now (omega arith) h.1, built_but_with b (path ++ second_step s ∷ []) (left - leaf_total a) (k - leaf_total a) (now - leaf_total a) (omega arith) (omega arith) (in_second a b (path ++ first_step s ∷ []) (path ++ second_step s ∷ []) p k d here past) h.2)
          ]

  -- a tree that is built, in the place of the last leaf that is left
  pub built_replaced : (p : Path) (d : Duals) (part : Node) → IsBuiltOf P Q p part → (t : Node) (path : Path) (left k : ℕ) → left ≡ suc k → slice_get (leaves_below path t) k ≡ Some (p, d) → IsBuiltBut P Q left path t → IsBuiltBut P Q k path (replaced t k part)
  built_replaced p d part has t path left k is here h = built_but_with p d part 0 (built_but_any part p 0 has) t path left k k is (omega arith) here h

  two_left : (s : Split) (path : Path) (first second : Duals) → Q path s → But 2 path (Fork s (Leaf first) (Leaf second))
  two_left s path first second q = (q, λ none. absurd (omega arith), λ none. absurd (omega arith))

  -- The steps of a growing tree, of which each leaf has P.
  pub built_from : (I : Instance) (path : Path) (d : Duals) → P path d → IsBuiltIn P Q (growing_from I path d)
  built_from I path d has = has

  module _ (g : Growing) (path : Path) (d : Duals) (at_work : leaf_at_work g ≡ Some (path, d)) (h : IsBuiltIn P Q g) where
    pub built_with_duals : (other : Duals) → P path other → IsBuiltIn P Q (worked g (Leaf other))
    built_with_duals other has = built_with path d (Leaf other) has g.tree.root g.base (g.left - 1) at_work h

    pub built_split : (s : Split) (first second : Duals) → Q path s → P (path ++ first_step s ∷ []) first → P (path ++ second_step s ∷ []) second → IsBuiltIn P Q (split_in_two g s first second)
    built_split s first second q has also = built_with path d (Fork s (Leaf first) (Leaf second)) (q, has, also) g.tree.root g.base (g.left - 1) at_work h

  -- The same where only the leaves that are done have P.
  pub done_from : (I : Instance) (path : Path) (d : Duals) → IsDoneIn P Q (growing_from I path d)
  done_from I path d = λ none. absurd (omega arith)

  pub done_whole : (g : Growing) → g.left ≡ 0 → IsDoneIn P Q g → IsBuiltOf P Q g.base g.tree.root
  done_whole g none h = built_whole g.tree.root g.base g.left none h

  module _ (g : Growing) (left : 0 < g.left) (path : Path) (d : Duals) (at_work : leaf_at_work g ≡ Some (path, d)) (h : IsDoneIn P Q g) where
    pub done_with_duals : (other : Duals) → IsDoneIn P Q (worked g (Leaf other))
    done_with_duals other = built_but_with path d (Leaf other) 1 (λ none. absurd (omega arith)) g.tree.root g.base g.left (g.left - 1) g.left (omega arith) (omega arith) at_work h

    pub done_split : (s : Split) (first second : Duals) → Q path s → IsDoneIn P Q (split_in_two g s first second)
    done_split s first second q = built_but_with path d (Fork s (Leaf first) (Leaf second)) 2 (two_left s path first second q) g.tree.root g.base g.left (g.left - 1) (g.left + 1) (omega arith) (omega arith) at_work h

    pub done_more : P path d → IsDoneIn P Q (record g { left = g.left - 1 })
    done_more has = built_done path d has g.tree.root g.base g.left (g.left - 1) (omega arith) at_work h

-- with what follows from P and from Q
module _ (P P' : Path → Duals → Type 0) (Q Q' : Path → Split → Type 0) (from : (path : Path) (d : Duals) → P path d → P' path d) (on : (path : Path) (s : Split) → Q path s → Q' path s) where
  pub built_weaker : (t : Node) (path : Path) → IsBuiltOf P Q path t → IsBuiltOf P' Q' path t
  built_weaker (Leaf d) path h = from path d h
  built_weaker (Fork s a b) path h = (on path s h.0, built_weaker a (path ++ first_step s ∷ []) h.1, built_weaker b (path ++ second_step s ∷ []) h.2)

  pub built_but_weaker : (t : Node) (path : Path) (left : ℕ) → IsBuiltBut P Q left path t → IsBuiltBut P' Q' left path t
  built_but_weaker (Leaf d) path left h = λ none. from path d (h none)
  built_but_weaker (Fork s a b) path left h = (on path s h.0, built_but_weaker a (path ++ first_step s ∷ []) left h.1, built_but_weaker b (path ++ second_step s ∷ []) (left - leaf_total a) h.2)
