-- The row that a kept leaf follows in is due for it.
use Rattle.std.proofs.Common.{◌≡◌, ℕ, ◌<◌, ap, sym, subst, ◌∙◌, arith, List, length, get_or, true}
use Rattle.location_terms.specs.Instance.{Instance}
use Rattle.location_terms.specs.Box.{Path}
use Rattle.location_terms.specs.Bound.{Duals}
use Rattle.location_terms.specs.Tree.{Tree, leaves_of}
use Rattle.leaf_book.specs.declared.change.Change.{Change}
use Rattle.leaf_book.specs.BookDue.{IsLeafDue, AreDue}
use Rattle.leaf_book.specs.Kept.{keeps, kept_leaves, carried_sums}
use Rattle.leaf_book.specs.Rows.{Held}
use Rattle.leaf_book.proofs.Following.{AreFollowed, kept_at, kept_within}
use Rattle.std.proofs.lemmas.List.{length-map}

module _ (change : Change) (lo hi : ℕ) (I : Instance) (t : Tree) (old rows : List Held) (k used : ℕ) (due : AreDue change lo hi I t (kept_leaves I (leaves_of t)) old)
    (here : AreFollowed (λ a. keeps I a.0) (carried_sums I t) (leaves_of t) k old rows used) (inside : k < length (leaves_of t)) (l : Path × Duals) (keep : keeps I (get_or (leaves_of t) k l).0 ≡ true) where
  among : used < length (kept_leaves I (leaves_of t))
  among = let less = kept_within (λ a. keeps I a.0) (leaves_of t) k l inside keep in omega (arith, less, here.used_are)

  pub row_there : used < length rows
  row_there =
      let enough = due.enough in
      let many : length rows ≡ length old = sym (length-map rows (λ r. r.room)) ∙ ap length here.room ∙ length-map old (λ r. r.room) in
      omega (arith, among, enough, many)

  pub row_due : (e : Held) → IsLeafDue change lo hi I t (get_or (leaves_of t) k l) (get_or rows used e)
  row_due e =
      let leaf : get_or (kept_leaves I (leaves_of t)) used l ≡ get_or (leaves_of t) k l =
      ap (λ n. get_or (kept_leaves I (leaves_of t)) n l) here.used_are ∙ kept_at (λ a. keeps I a.0) (leaves_of t) k l inside keep in
      let same : get_or old used e ≡ get_or rows used e = sym (here.rest used e (omega arith)) in
      subst (λ (x : (Path × Duals) × Held). IsLeafDue change lo hi I t x.0 x.1) (λ x. (leaf x, same x)) (due.each used l e among)
