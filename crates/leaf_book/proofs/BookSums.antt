-- What a book of a tree has: the sums of the leaves that are kept, by their whole paths, or those of the root leaf of zeros.
use Rattle.std.proofs.Common.{◌≡◌, ◌+◌, ◌*◌, ◌-◌, ◌/◌, refl, ap, sym, subst, ◌∙◌, arith, Bool, true, false, cond, List, [], ◌∷◌, map, length, nat_lt}
use Rattle.std.specs.Prelude.{All, filter, if◌then◌else◌}
use Rattle.std.proofs.lemmas.List.{length-map}
use Rattle.std.proofs.lemmas.Simd.{map-map}
use Rattle.std.proofs.lemmas.List.Elements.{All-map, All-filter, All-nil, All-cons}
use Rattle.location_terms.specs.declared.form.LeafForm.TheVariants.{Prices}
use Rattle.location_terms.specs.Instance.{Instance}
use Rattle.location_terms.specs.Box.{Path}
use Rattle.location_terms.specs.Bound.{Duals}
use Rattle.location_terms.specs.Leaf.{LeafFits}
use Rattle.location_terms.specs.Tree.{Tree, IsTree, HasLists, leaves_of, nodes_of}
use Rattle.dual_value.specs.Zeros.{zeros}
use Rattle.dual_value.proofs.Zeros.{zeros_fit}
use Rattle.branch_tree.specs.declared.limits.TheConstants.{MAX_TREE_NUMBERS}
use Rattle.branch_tree.specs.Made.{leaf_of}
use Rattle.branch_tree.proofs.Flat.{leaves_and_splits}
use Rattle.leaf_repair.specs.CarriedTree.{carried_duals, form_on, reduced_tree, is_too_large, carried_tree}
use Rattle.leaf_repair.proofs.Fitting.{carried_fits}
use Rattle.leaf_book.specs.Sums.{sums_of}
use Rattle.leaf_book.specs.Book.{IsByPrices}
use Rattle.leaf_book.specs.Kept.{keeps, kept_leaves, carried_sums, are_too_many_leaves, root_sums, due_sums}
use Rattle.leaf_book.proofs.KeptLeaves.{left_leaf, leaves_reduced}
use Rattle.leaf_book.proofs.LeftPaths.{left_made}
use Rattle.leaf_book.proofs.Touched.{sums_alike}

-- what agrees where a test is passed is the same of all that pass it
kept_same : {A B : Type 0} (p : A → Bool) (f g : A → B) → ((x : A) → p x ≡ true → f x ≡ g x) → (xs : List A) → map f (filter p xs) ≡ map g (filter p xs)
kept_same p f g h [] = refl
kept_same {A} {B} p f g h (x ∷ xs) = along (p x) refl (kept_same p f g h xs)
  where
    along : (b : Bool) → p x ≡ b → map f (filter p xs) ≡ map g (filter p xs) → map f (cond (p x) (x ∷ filter p xs) (filter p xs)) ≡ map g (cond (p x) (x ∷ filter p xs) (filter p xs))
    along true e rest = ap (λ c. map f (cond c (x ∷ filter p xs) (filter p xs))) e ∙ (λ k. h x e k ∷ rest k) ∙ ap (λ c. map g (cond c (x ∷ filter p xs) (filter p xs))) (sym e)
    along false e rest = ap (λ c. map f (cond c (x ∷ filter p xs) (filter p xs))) e ∙ rest ∙ ap (λ c. map g (cond c (x ∷ filter p xs) (filter p xs))) (sym e)

module _ (I : Instance) (t : Tree) where
  abbrev kept : List (Path × Duals)
  kept = kept_leaves I (leaves_of t)

  abbrev leave : Path × Duals → Path × Duals
  leave l = left_leaf I t.sites t.customers l

  left_leaves : leaves_of (reduced_tree I t) ≡ map leave kept
  left_leaves = leaves_reduced I t.sites t.customers t.root [] refl

  size : 2 * nodes_of (reduced_tree I t) ≡ 4 * length kept - 2
  size =
      let many : length (leaves_of (reduced_tree I t)) ≡ length kept = ap length left_leaves ∙ length-map kept leave in
      omega (arith, many, leaves_and_splits (reduced_tree I t).root [])

  pub as_large : is_too_large I (reduced_tree I t) ≡ are_too_many_leaves I (length kept)
  as_large = ap (nat_lt (MAX_TREE_NUMBERS / (length I.sites + length I.customers))) size

  left_sums : map (sums_of I) (map leave kept) ≡ map (carried_sums I t) kept
  left_sums =
      map-map (sums_of I) leave kept
      ∙ kept_same (λ l. keeps I l.0) (λ l. sums_of I (leave l)) (carried_sums I t)
      (λ l keep. sym (let d = carried_duals I t.sites t.customers l.1 in sums_alike I l.0 d I (leave l).0 d refl (left_made I l.0 keep d) refl refl refl refl refl refl))
      (leaves_of t)

  pub book_sums : map (sums_of I) (leaves_of (carried_tree I t)) ≡ due_sums I t
  book_sums =
      ap (λ b. map (sums_of I) (leaves_of (if b then leaf_of I (zeros I 1) else reduced_tree I t))) as_large
      ∙ along (are_too_many_leaves I (length kept))
    where
      along : (b : Bool) → map (sums_of I) (leaves_of (if b then leaf_of I (zeros I 1) else reduced_tree I t)) ≡ (if b then root_sums I ∷ [] else map (carried_sums I t) kept)
      along true = refl
      along false = ap (map (sums_of I)) left_leaves ∙ left_sums

  -- the leaves of the carried tree suit the instance, and take prices where those of the tree do
  pub fits_by_prices : IsTree t → IsByPrices t → All (λ l. LeafFits I l.1 × (l.1.form ≡ Prices)) (leaves_of (carried_tree I t))
  fits_by_prices tree prices = along (is_too_large I (reduced_tree I t))
    where
      each : All (λ l. LeafFits I l.1 × (l.1.form ≡ Prices)) (map leave kept)
      each =
          All-map (λ l. LeafFits I l.1 × (l.1.form ≡ Prices)) leave kept
          (λ k l b. (
            carried_fits I t.sites t.customers _ (All-filter (λ a. keeps I a.0) (λ a. HasLists (length t.sites) (length t.customers) a.1) (leaves_of t) tree.leaves k l b),
            ap (form_on I) (All-filter (λ a. keeps I a.0) (λ a. a.1.form ≡ Prices) (leaves_of t) prices k l b),
          ))

      along : (b : Bool) → All (λ l. LeafFits I l.1 × (l.1.form ≡ Prices)) (leaves_of (if b then leaf_of I (zeros I 1) else reduced_tree I t))
      along true = All-cons (λ l. LeafFits I l.1 × (l.1.form ≡ Prices)) ([], zeros I 1) [] (record { numbers = zeros_fit I 1 (omega arith); prices = tt; knapsacks = tt }, refl) (All-nil (λ l. LeafFits I l.1 × (l.1.form ≡ Prices)))
      along false = subst (All (λ l. LeafFits I l.1 × (l.1.form ≡ Prices))) (sym left_leaves) each
