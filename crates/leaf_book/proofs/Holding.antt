-- Which leaves of the carried tree close, by what a book has of them.
use Rattle.std.proofs.Common.{◌≡◌, ◌↔◌, ℕ, ◌<◌, ap, sym, subst, ◌∙◌, Bool, List, [], length, get_or, Option, Some, ℤ, pos}
use Rattle.std.specs.Prelude.{IsTrue, slice_get}
use Rattle.std.proofs.lemmas.List.{length-map, get_or-map}
use Rattle.std.proofs.lemmas.Option.{slice_get_within, get_or_from_slice_get}
use Rattle.location_terms.specs.declared.form.LeafForm.{LeafForm}
use Rattle.location_terms.specs.declared.form.LeafForm.TheVariants.{Prices}
use Rattle.location_terms.specs.Instance.{Instance}
use Rattle.location_terms.specs.Box.{Path}
use Rattle.location_terms.specs.Bound.{Duals}
use Rattle.location_terms.specs.Fit.{BoundCloses}
use Rattle.location_terms.specs.Leaf.{LeafFits, LeafCloses, leaf_bound, bound_in}
use Rattle.location_terms.specs.Tree.{Tree, IsTree, leaves_of}
use Rattle.leaf_repair.specs.CarriedTree.{carried_tree}
use Rattle.leaf_book.specs.Sums.{LeafSums, sums_of}
use Rattle.leaf_book.specs.Book.{Book, IsBookOf, sums_at}
use Rattle.leaf_book.proofs.BookSums.{fits_by_prices}

module _ (I : Instance) (t : Tree) (b : Book) (is : IsBookOf b I t) (tree : IsTree t) (target : Option ℕ) where
  abbrev leaves : List (Path × Duals)
  leaves = leaves_of (carried_tree I t)

  pub leaf_count : length b.leaves ≡ length leaves
  leaf_count = ap length is.leaves ∙ length-map leaves (sums_of I)

  sums_are : (k : ℕ) (l : Path × Duals) → slice_get leaves k ≡ Some l → sums_at b k ≡ sums_of I l
  sums_are k l here =
      let inside : k < length leaves = slice_get_within leaves k l here in
      ap (λ (ss : List LeafSums). get_or ss k (record { q = 0; slacks = []; bound = pos 0 })) is.leaves
      ∙ get_or-map (sums_of I) leaves k l (record { q = 0; slacks = []; bound = pos 0 }) inside
      ∙ ap (sums_of I) (get_or_from_slice_get leaves k l l here)

  -- a bound and a scale that are those of the leaf tell whether it closes
  pub told : (k : ℕ) (l : Path × Duals) → slice_get leaves k ≡ Some l → (holds : Bool) (bound : ℤ) (q : ℕ) → bound ≡ (sums_at b k).bound → q ≡ (sums_at b k).q → IsTrue holds ↔ BoundCloses bound q target → IsTrue holds ↔ LeafCloses I l.0 l.1 target
  told k l here holds bound q bound_is q_is closes =
      let inside : k < length leaves = slice_get_within leaves k l here in
      let suits = fits_by_prices I t tree is.by_prices k l inside in
      let leaf : get_or leaves k l ≡ l = get_or_from_slice_get leaves k l l here in
      let fit = subst (λ (a : Path × Duals). LeafFits I a.1 × (a.1.form ≡ Prices)) leaf suits in
      let own : bound ≡ leaf_bound I l.0 l.1 = bound_is ∙ ap (λ (s : LeafSums). s.bound) (sums_are k l here) ∙ sym (ap (λ (f : LeafForm). bound_in f I l.0 l.1) fit.1) in
      let scale : q ≡ l.1.q = q_is ∙ ap (λ (s : LeafSums). s.q) (sums_are k l here) in (
        λ h. record { fit = fit.0; closed = subst (λ (x : ℤ × ℕ). BoundCloses x.0 x.1 target) (λ i. (own i, scale i)) (closes.0 h) },
        λ c. closes.1 (subst (λ (x : ℤ × ℕ). BoundCloses x.0 x.1 target) (λ i. (sym own i, sym scale i)) c.closed),
      )
