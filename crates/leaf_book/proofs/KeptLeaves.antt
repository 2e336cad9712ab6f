-- The leaves of a tree that is carried over are those of the tree whose path keeps to what the instance has, with the steps that name what is gone left out.
use Rattle.std.proofs.Common.{◌≡◌, ℕ, refl, ap, sym, ◌∙◌, Bool, true, false, cond, List, [], ◌∷◌, ◌++◌, map}
use Rattle.std.specs.Prelude.{◌&&◌, filter, if◌then◌else◌}
use Rattle.std.proofs.lemmas.List.{map-append, append-nil}
use Rattle.std.proofs.lemmas.List.Elements.{filter-append}
use Rattle.std.proofs.lemmas.List.Folds.{list_all-append}
use Rattle.location_terms.specs.declared.decision.Decision.{Decision}
use Rattle.location_terms.specs.declared.decision.Decision.TheVariants.{Opened, Closed, Yes, No}
use Rattle.location_terms.specs.declared.split.Split.{Split}
use Rattle.location_terms.specs.declared.split.Split.TheVariants.{Site, Lane}
use Rattle.location_terms.specs.Instance.{Instance, site_ids, customer_ids}
use Rattle.location_terms.specs.Box.{Path}
use Rattle.location_terms.specs.Split.{first_step, second_step}
use Rattle.location_terms.specs.Bound.{Duals}
use Rattle.location_terms.specs.Carried.{is_listed}
use Rattle.location_terms.specs.Tree.{Node, Leaf, Fork, leaves_below}
use Rattle.leaf_repair.specs.CarriedTree.{carried_duals, knows_split, reduced}
use Rattle.leaf_book.specs.Kept.{keeps_step, keeps, kept_leaves}

-- the step names what the instance has
abbrev pub knows_step : Instance → Decision → Bool
knows_step I (Opened s) = is_listed (site_ids I) s
knows_step I (Closed s) = is_listed (site_ids I) s
knows_step I (Yes s c) = is_listed (site_ids I) s && is_listed (customer_ids I) c
knows_step I (No s c) = is_listed (site_ids I) s && is_listed (customer_ids I) c

-- the path without the steps that name what is gone
abbrev pub left_path : Instance → Path → Path
left_path I path = filter (knows_step I) path

-- the leaf as the carried tree has it
abbrev pub left_leaf : Instance → List ℕ → List ℕ → Path × Duals → Path × Duals
left_leaf I sites customers l = (left_path I l.0, carried_duals I sites customers l.1)

and_true : (b : Bool) → (b && true) ≡ b
and_true true = refl
and_true false = refl

and_false : (b : Bool) → (b && false) ≡ false
and_false true = refl
and_false false = refl

module _ (I : Instance) where
  first_known : (split : Split) → knows_step I (first_step split) ≡ knows_split I split
  first_known (Site s) = refl
  first_known (Lane s c) = refl

  second_known : (split : Split) → knows_step I (second_step split) ≡ knows_split I split
  second_known (Site s) = refl
  second_known (Lane s c) = refl

  first_kept : (split : Split) → keeps_step I (first_step split) ≡ true
  first_kept (Site s) = refl
  first_kept (Lane s c) = refl

  second_kept : (split : Split) → keeps_step I (second_step split) ≡ knows_split I split
  second_kept (Site s) = refl
  second_kept (Lane s c) = refl

  keeps_more : (path : Path) (d : Decision) → keeps I (path ++ d ∷ []) ≡ (keeps I path && keeps_step I d)
  keeps_more path d = list_all-append (keeps_step I) path (d ∷ []) ∙ ap (λ b. keeps I path && b) (and_true (keeps_step I d))

  left_more : (path : Path) (d : Decision) (b : Bool) → knows_step I d ≡ b → left_path I (path ++ d ∷ []) ≡ left_path I path ++ cond b (d ∷ []) []
  left_more path d b e = filter-append (knows_step I) path (d ∷ []) ∙ ap (λ x. left_path I path ++ cond x (d ∷ []) []) e

  first_stays : (path : Path) (split : Split) → keeps I path ≡ true → keeps I (path ++ first_step split ∷ []) ≡ true
  first_stays path split h = keeps_more path (first_step split) ∙ (λ k. h k && first_kept split k)

  second_is : (path : Path) (split : Split) (b : Bool) → keeps I path ≡ true → knows_split I split ≡ b → keeps I (path ++ second_step split ∷ []) ≡ b
  second_is path split b h known = keeps_more path (second_step split) ∙ (λ k. h k && (second_kept split ∙ known) k)

  -- below a path that isn't kept no leaf is
  none_kept : (n : Node) (path : Path) → keeps I path ≡ false → kept_leaves I (leaves_below path n) ≡ []
  none_kept (Leaf d) path h = ap (λ b. cond b ((path, d) ∷ []) []) h
  none_kept (Fork split a b) path h =
      let first : keeps I (path ++ first_step split ∷ []) ≡ false = keeps_more path (first_step split) ∙ ap (λ x. x && keeps_step I (first_step split)) h in
      let second : keeps I (path ++ second_step split ∷ []) ≡ false = keeps_more path (second_step split) ∙ ap (λ x. x && keeps_step I (second_step split)) h in
      filter-append (λ l. keeps I l.0) (leaves_below (path ++ first_step split ∷ []) a) (leaves_below (path ++ second_step split ∷ []) b)
      ∙ (λ k. none_kept a (path ++ first_step split ∷ []) first k ++ none_kept b (path ++ second_step split ∷ []) second k)

module _ (I : Instance) (sites customers : List ℕ) where
  abbrev left : List (Path × Duals) → List (Path × Duals)
  left leaves = map (left_leaf I sites customers) (kept_leaves I leaves)

  left-append : (xs ys : List (Path × Duals)) → left (xs ++ ys) ≡ left xs ++ left ys
  left-append xs ys = ap (map (left_leaf I sites customers)) (filter-append (λ l. keeps I l.0) xs ys) ∙ map-append (left_leaf I sites customers) (kept_leaves I xs) (kept_leaves I ys)

  abbrev under : Path → Node → Node → Split → List (Path × Duals)
  under path a b split = leaves_below (path ++ first_step split ∷ []) a ++ leaves_below (path ++ second_step split ∷ []) b

  abbrev again : Path → Node → Type 0
  again path n = leaves_below (left_path I path) (reduced I sites customers n) ≡ left (leaves_below path n)

  pub leaves_reduced : (n : Node) (path : Path) → keeps I path ≡ true → leaves_below (left_path I path) (reduced I sites customers n) ≡ left (leaves_below path n)
  leaves_reduced (Leaf d) path h = ap (λ b. map (left_leaf I sites customers) (cond b ((path, d) ∷ []) [])) (sym h)
  leaves_reduced (Fork split a b) path h =
      along (knows_split I split) refl (leaves_reduced a (path ++ first_step split ∷ []) (first_stays I path split h)) (leaves_reduced b (path ++ second_step split ∷ []))
    where
      along : (known : Bool) → knows_split I split ≡ known → again (path ++ first_step split ∷ []) a → (keeps I (path ++ second_step split ∷ []) ≡ true → again (path ++ second_step split ∷ []) b)
          → leaves_below (left_path I path) (if knows_split I split then Fork split (reduced I sites customers a) (reduced I sites customers b) else reduced I sites customers a) ≡ left (under path a b split)
      along true e first second =
          ap (λ x. leaves_below (left_path I path) (if x then Fork split (reduced I sites customers a) (reduced I sites customers b) else reduced I sites customers a)) e
          ∙ (λ k. leaves_below (sym (left_more I path (first_step split) true (first_known I split ∙ e)) k) (reduced I sites customers a) ++ leaves_below (sym (left_more I path (second_step split) true (second_known I split ∙ e)) k) (reduced I sites customers b))
          ∙ (λ k. first k ++ second (second_is I path split true h e) k)
          ∙ sym (left-append (leaves_below (path ++ first_step split ∷ []) a) (leaves_below (path ++ second_step split ∷ []) b))
      along false e first second =
          let gone : left (leaves_below (path ++ second_step split ∷ []) b) ≡ [] = ap (map (left_leaf I sites customers)) (none_kept I b (path ++ second_step split ∷ []) (second_is I path split false h e)) in
          ap (λ x. leaves_below (left_path I path) (if x then Fork split (reduced I sites customers a) (reduced I sites customers b) else reduced I sites customers a)) e
          ∙ ap (λ p. leaves_below p (reduced I sites customers a)) (sym (left_more I path (first_step split) false (first_known I split ∙ e) ∙ append-nil (left_path I path)))
          ∙ first
          ∙ sym (append-nil (left (leaves_below (path ++ first_step split ∷ []) a)))
          ∙ ap (λ x. left (leaves_below (path ++ first_step split ∷ []) a) ++ x) (sym gone)
          ∙ sym (left-append (leaves_below (path ++ first_step split ∷ []) a) (leaves_below (path ++ second_step split ∷ []) b))
