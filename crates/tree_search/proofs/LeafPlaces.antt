-- Leaves by their places, in a tree and in one with another tree in the place of a leaf.
use Rattle.std.proofs.Common.{◌≡◌, ℕ, ◌+◌, ◌-◌, ◌≤◌, zero, suc, sym, subst, ◌∙◌, inl, inr, arith, cond, List, [], ◌∷◌, ◌++◌, Some}
use Rattle.std.specs.Prelude.{All, slice_get, map}
use Rattle.std.proofs.lemmas.Bool.{cases_lt, lt-ltb, le-ltb}
use Rattle.location_terms.specs.Box.{Path}
use Rattle.location_terms.specs.Split.{first_step, second_step}
use Rattle.location_terms.specs.Bound.{Duals}
use Rattle.location_terms.specs.Tree.{Node, Leaf, Fork, leaves_below, size_of}
use Rattle.branch_tree.specs.Leaf.{leaf_total, replaced}
use Rattle.branch_tree.proofs.Built.{leaf_is}
use Rattle.branch_tree.proofs.Flat.{leaves_and_splits, as_many}
use Rattle.branch_tree.proofs.Spliced.{get_left, get_right}

pub all_at : {X : Type 0} (P : X → Type 0) (xs : List X) (k : ℕ) (x : X) → All P xs → slice_get xs k ≡ Some x → P x
all_at P [] k x h e = cc
all_at P (y ∷ ys) zero x h e = let same : y ≡ x = cc in subst P same (h 0 y (omega arith))
all_at P (y ∷ ys) (suc k) x h e = all_at P ys k x (λ i d b. h (suc i) d (omega (arith, b))) e

-- how many nodes a tree has with another in the place of a leaf
pub replaced_size : (part : Node) (p : Path) (d : Duals) (t : Node) (path : Path) (k : ℕ) → slice_get (leaves_below path t) k ≡ Some (p, d) → size_of (replaced t k part) + 1 ≡ size_of t + size_of part
replaced_size part p d (Leaf e) path zero here = omega arith
replaced_size part p d (Leaf e) path (suc k) here = cc
replaced_size part p d (Fork split a b) path k here =
    let one : List (Path × Duals) = leaves_below (path ++ first_step split ∷ []) a in
    let other : List (Path × Duals) = leaves_below (path ++ second_step split ∷ []) b in
    elim (cases_lt k (leaf_total a)) [
      | inl within ↦ subst (λ t. size_of (cond t (Fork split (replaced a k part) b) (Fork split a (replaced b (k - leaf_total a) part))) + 1 ≡ size_of (Fork split a b) + size_of part) (sym (lt-ltb k (leaf_total a) within))
          (omega (arith, replaced_size part p d a (path ++ first_step split ∷ []) k (sym (get_left one other k (omega (arith, within, as_many a (path ++ first_step split ∷ [])))) ∙ here)))
      | inr past ↦ subst (λ t. size_of (cond t (Fork split (replaced a k part) b) (Fork split a (replaced b (k - leaf_total a) part))) + 1 ≡ size_of (Fork split a b) + size_of part) (sym (le-ltb k (leaf_total a) past))
          (omega (arith, replaced_size part p d b (path ++ second_step split ∷ []) (k - leaf_total a) (sym (get_right one other k (k - leaf_total a) (omega (arith, past, as_many a (path ++ first_step split ∷ [])))) ∙ here)))
    ]

pub some_node : (t : Node) → 1 ≤ size_of t
some_node t = omega (arith, leaves_and_splits t [])

-- a leaf of which the path and the duals are known
pub leaf_there : (ls : List (Path × Duals)) (k : ℕ) (path : Path) (d : Duals) → slice_get (map (λ l. l.0) ls) k ≡ Some path → slice_get (map (λ l. l.1) ls) k ≡ Some d → slice_get ls k ≡ Some (path, d)
leaf_there [] k path d h e = cc
leaf_there (l ∷ ls) zero path d h e = leaf_is (Some l) path d h e
leaf_there (l ∷ ls) (suc k) path d h e = leaf_there ls k path d h e
