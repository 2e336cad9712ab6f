-- The leaves of a tree by the places of their entries.
use Rattle.std.proofs.Common.{◌≡◌, ℕ, ◌+◌, ◌<◌, zero, suc, refl, sym, ap, subst, ◌∙◌, arith, true, cond, List, [], ◌∷◌, length, get_or, take, map, option_map, Some}
use Rattle.std.specs.Prelude.{fold, count_by, slice_get}
use Rattle.std.proofs.lemmas.Option.{slice_get-map, slice_get-get_or}
use Rattle.std.proofs.lemmas.List.Sums.{sum_by-cons}
use Rattle.location_terms.specs.declared.split.Split.{Split}
use Rattle.location_terms.specs.Box.{Path}
use Rattle.location_terms.specs.Bound.{Duals}
use Rattle.location_terms.specs.Tree.{Tree, leaves_of}
use Rattle.branch_tree.specs.declared.entry.Entry.{Entry}
use Rattle.branch_tree.specs.declared.entry.Entry.TheVariants.{End, Branch}
use Rattle.branch_tree.specs.Preorder.{no_duals, IsStored}
use Rattle.branch_tree.specs.Walk.{next, passed, leaves_ahead}
use Rattle.branch_tree.specs.Leaf.{is_end}
use Rattle.branch_tree.proofs.Stored.{seen}
use Rattle.branch_tree.proofs.Ahead.{leaves_stored}

pub counted_end : (d : Duals) (es : List Entry) → count_by is_end (End d ∷ es) ≡ suc (count_by is_end es)
counted_end d es = let more : 1 + count_by is_end es ≡ suc (count_by is_end es) = omega arith in sum_by-cons (λ x. cond (is_end x) 1 0) (End d) es ∙ more

pub counted_branch : (split : Split) (es : List Entry) → count_by is_end (Branch split ∷ es) ≡ count_by is_end es
counted_branch split es = refl

pub leaves_counted : (path : Path) (n : List Entry) → length (leaves_ahead path n) ≡ count_by is_end n
leaves_counted path [] = refl
leaves_counted path (End d ∷ es) = ap suc (leaves_counted (next path) es) ∙ sym (counted_end d es)
leaves_counted path (Branch split ∷ es) = leaves_counted (passed path (Branch split)) es ∙ sym (counted_branch split es)

-- the leaf whose entry is at this place
pub leaf_found : (path : Path) (n : List Entry) (p : ℕ) (d : Duals) → slice_get n p ≡ Some (End d) → slice_get (leaves_ahead path n) (count_by is_end (take p n)) ≡ Some (fold passed path (take p n), d)
leaf_found path [] p d h = cc
leaf_found path (End e ∷ es) zero d h = let same : e ≡ d = cc in ap (λ x. Some (path, x)) same
leaf_found path (Branch split ∷ es) zero d h = cc
leaf_found path (End e ∷ es) (suc p) d h = ap (slice_get (leaves_ahead path (End e ∷ es))) (counted_end e (take p es)) ∙ leaf_found (next path) es p d h
leaf_found path (Branch split ∷ es) (suc p) d h = ap (slice_get (leaves_ahead path (Branch split ∷ es))) (counted_branch split (take p es)) ∙ leaf_found (passed path (Branch split)) es p d h

module _ {S C : List ℕ} {n : List Entry} (stored : IsStored S C n) (t : Tree) (view_is : seen S C n ≡ t) where
  pub stored_leaves_are : leaves_ahead [] n ≡ leaves_of t
  stored_leaves_are = leaves_stored stored ∙ ap leaves_of view_is

  pub stored_count : (k : ℕ) → k < length (leaves_of t) → k < count_by is_end n
  stored_count k h = omega (arith, ap length stored_leaves_are, leaves_counted [] n)

  pub stored_leaf : (k p : ℕ) (d : Duals) → slice_get n p ≡ Some (End d) → count_by is_end (take p n) ≡ k → slice_get (leaves_of t) k ≡ Some (fold passed [] (take p n), d)
  stored_leaf k p d here before = ap (λ ls. slice_get ls k) (sym stored_leaves_are) ∙ ap (slice_get (leaves_ahead [] n)) (sym before) ∙ leaf_found [] n p d here

pub end_at : (n : List Entry) (p : ℕ) (e : Entry) (d : Duals) → p < length n → e ≡ get_or n p e → e ≡ End d → slice_get n p ≡ Some (End d)
end_at n p e d within here is = slice_get-get_or n p e within ∙ ap Some (sym here ∙ is)

-- an entry that passes the test has duals
pub ended : (e : Entry) → is_end e ≡ true → (d : Duals) × (e ≡ End d)
ended (End d) h = (d, refl)
ended (Branch split) h = cc

module _ {S C : List ℕ} {n : List Entry} (stored : IsStored S C n) (t : Tree) (view_is : seen S C n ≡ t) where
  -- what a function of its path says of leaf k
  pub stored_by : {X : Type 0} (f : Path → X) (k p : ℕ) (m : List Entry) → m ≡ n → p < length m → ((e : Entry) → is_end (get_or m p e) ≡ true) → count_by is_end (take p m) ≡ k → slice_get (map (λ l. f l.0) (leaves_of t)) k ≡ Some (f (fold passed [] (take p m)))
  stored_by f k p m same within leaf before =
      let here : p < length n = omega (arith, ap length same) in
      let found : (d : Duals) × (get_or n p (End no_duals) ≡ End d) = ended (get_or n p (End no_duals)) (subst (λ xs. is_end (get_or xs p (End no_duals)) ≡ true) same (leaf (End no_duals))) in
      slice_get-map (λ l. f l.0) (leaves_of t) k
      ∙ ap (option_map (λ l. f l.0)) (stored_leaf stored t view_is k p found.0 (slice_get-get_or n p (End no_duals) here ∙ ap Some found.1) (subst (λ xs. count_by is_end (take p xs) ≡ k) same before))
      ∙ ap (λ xs. Some (f (fold passed [] (take p xs)))) (sym same)
