-- A tree whose first leaves are settled: what took their places, one after another.
use Rattle.std.proofs.Common.{◌≡◌, ℕ, ◌+◌, ◌*◌, ◌-◌, ◌<◌, ◌≤◌, zero, suc, refl, sym, ap, ◌∙◌, inl, inr, arith, cond, List, [], ◌∷◌, ◌++◌, length, length-append, drop, Some}
use Rattle.std.specs.Prelude.{slice_get}
use Rattle.std.proofs.lemmas.Bool.{cases_lt, lt-ltb, le-ltb}
use Rattle.std.proofs.lemmas.List.{drop_all, drop-append-le, length-drop}
use Rattle.std.proofs.Math.Seq.{drop-nil}
use Rattle.location_terms.specs.Box.{Path}
use Rattle.location_terms.specs.Split.{first_step, second_step}
use Rattle.location_terms.specs.Bound.{Duals}
use Rattle.location_terms.specs.Tree.{Node, Leaf, Fork, Tree, leaves_below, leaves_of, size_of}
use Rattle.branch_tree.specs.Leaf.{leaf_total, replaced}
use Rattle.branch_tree.specs.Renewing.{Renewing, renewing_from, stayed, given, renewed, leaves_in, renewing_to}
use Rattle.branch_tree.proofs.Built.{one_leaf_is}
use Rattle.branch_tree.proofs.Flat.{leaves_and_splits, as_many}
use Rattle.branch_tree.proofs.Spliced.{get_left, get_right}

drop_drop : {X : Type 0} (m n : ℕ) (xs : List X) → drop m (drop n xs) ≡ drop (n + m) xs
drop_drop m zero xs = let same : 0 + m ≡ m = omega arith in ap (λ k. drop k xs) (sym same)
drop_drop m (suc n) [] = drop-nil m ∙ sym (drop-nil (suc n + m))
drop_drop m (suc n) (x ∷ xs) = let more : suc n + m ≡ suc (n + m) = omega arith in drop_drop m n xs ∙ ap (λ k. drop k (x ∷ xs)) (sym more)

pub fork_total : (a b : Node) (p q : Path) → length (leaves_below p a ++ leaves_below q b) ≡ leaf_total a + leaf_total b
fork_total a b p q = omega (arith, length-append (leaves_below p a) (leaves_below q b), as_many a p, as_many b q)

-- the parts that are left over
over : (t : Node) (ps : List Node) → (renewed t ps).1 ≡ drop (leaf_total t) ps
over (Leaf d) [] = refl
over (Leaf d) (p ∷ ps) = refl
over (Fork split a b) ps =
    over b (renewed a ps).1
    ∙ ap (drop (leaf_total b)) (over a ps)
    ∙ drop_drop (leaf_total b) (leaf_total a) ps
    ∙ ap (λ n. drop n ps) (sym (fork_total a b (first_step split ∷ []) (second_step split ∷ [])))

none_over : (t : Node) (ps : List Node) → length ps ≤ leaf_total t → (renewed t ps).1 ≡ []
none_over t ps few = over t ps ∙ drop_all (leaf_total t) ps few

pub count_over : (t : Node) (ps : List Node) → leaf_total t ≤ length ps → length (renewed t ps).1 + leaf_total t ≡ length ps
count_over t ps many = omega (arith, ap length (over t ps), length-drop (leaf_total t) ps)

more_over : (t : Node) (ps qs : List Node) → leaf_total t ≤ length ps → (renewed t (ps ++ qs)).1 ≡ (renewed t ps).1 ++ qs
more_over t ps qs many = over t (ps ++ qs) ∙ drop-append-le (leaf_total t) ps qs many ∙ ap (λ rs. rs ++ qs) (sym (over t ps))

-- each part has its leaves in the place of one
pub renewed_leaves : (t : Node) (ps : List Node) → leaf_total (renewed t ps).0 + leaves_in (renewed t ps).1 + length ps ≡ leaves_in ps + leaf_total t + length (renewed t ps).1
renewed_leaves (Leaf d) [] = refl
renewed_leaves (Leaf d) (p ∷ ps) = omega arith
renewed_leaves (Fork split a b) ps =
    omega (
      arith,
      renewed_leaves a ps,
      renewed_leaves b (renewed a ps).1,
      fork_total a b (first_step split ∷ []) (second_step split ∷ []),
      fork_total (renewed a ps).0 (renewed b (renewed a ps).1).0 (first_step split ∷ []) (second_step split ∷ []),
    )

-- and two nodes for each leaf more
pub renewed_nodes : (t : Node) (ps : List Node) → length ps ≤ leaf_total t → size_of (renewed t ps).0 + 2 * length ps ≡ size_of t + 2 * leaves_in ps
renewed_nodes t ps few =
    omega (
      arith,
      renewed_leaves t ps,
      leaves_and_splits t [],
      leaves_and_splits (renewed t ps).0 [],
      ap length (none_over t ps few),
      ap leaves_in (none_over t ps few),
    )

-- no part changes nothing
renewed_none : (t : Node) → (renewed t []).0 ≡ t
renewed_none (Leaf d) = refl
renewed_none (Fork split a b) =
    ap (λ x. Fork split x (renewed b (renewed a []).1).0) (renewed_none a)
    ∙ ap (λ rs. Fork split a (renewed b rs).0) (none_over a [] (omega arith))
    ∙ ap (Fork split a) (renewed_none b)

-- more parts than there are leaves change nothing
same_first : (t : Node) (ps qs : List Node) → leaf_total t ≤ length ps → (renewed t (ps ++ qs)).0 ≡ (renewed t ps).0
same_first (Leaf d) [] qs many = absurd (omega arith)
same_first (Leaf d) (p ∷ ps) qs many = refl
same_first (Fork split a b) ps qs many =
    let both : leaf_total a + leaf_total b ≤ length ps = omega (arith, fork_total a b (first_step split ∷ []) (second_step split ∷ [])) in
    ap (λ x. Fork split x (renewed b (renewed a (ps ++ qs)).1).0) (same_first a ps qs (omega arith))
    ∙ ap (λ rs. Fork split (renewed a ps).0 (renewed b rs).0) (more_over a ps qs (omega arith))
    ∙ ap (Fork split (renewed a ps).0) (same_first b (renewed a ps).1 qs (omega (arith, count_over a ps (omega arith))))

-- the parts that are left over for the second child, before and after one more part that the first child takes
same_second : (a b : Node) (ps : List Node) (p : Node) → length ps < leaf_total a → (renewed b (renewed a (ps ++ p ∷ [])).1).0 ≡ (renewed b (renewed a ps).1).0
same_second a b ps p few =
    ap (λ rs. (renewed b rs).0) (none_over a (ps ++ p ∷ []) (omega (arith, length-append ps (p ∷ []))) ∙ sym (none_over a ps (omega arith)))

-- one part more, in the place of the first leaf that isn't settled
pub renewed_more : (t : Node) (ps : List Node) (p : Node) → length ps < leaf_total t → replaced (renewed t ps).0 (leaves_in ps) p ≡ (renewed t (ps ++ p ∷ [])).0
renewed_more (Leaf d) [] p few = refl
renewed_more (Leaf d) (q ∷ qs) p few = absurd (omega arith)
renewed_more (Fork split a b) ps p few =
    let both : leaf_total a + leaf_total b ≡ leaf_total (Fork split a b) = sym (fork_total a b (first_step split ∷ []) (second_step split ∷ [])) in
    let x : Node = (renewed a ps).0 in
    let rest : List Node = (renewed a ps).1 in
    let y : Node = (renewed b rest).0 in
    elim (cases_lt (length ps) (leaf_total a)) [
      | inl within ↦
          let early : leaves_in ps < leaf_total x = omega (arith, renewed_leaves a ps, ap length (none_over a ps (omega arith)), ap leaves_in (none_over a ps (omega arith))) in
          ap (λ t. cond t (Fork split (replaced x (leaves_in ps) p) y) (Fork split x (replaced y (leaves_in ps - leaf_total x) p))) (lt-ltb (leaves_in ps) (leaf_total x) early)
          ∙ ap (λ z. Fork split z y) (renewed_more a ps p within)
          ∙ ap (Fork split (renewed a (ps ++ p ∷ [])).0) (sym (same_second a b ps p within))
      | inr past ↦
          let left : length rest + leaf_total a ≡ length ps = count_over a ps past in
          let late : leaf_total x + leaves_in rest ≡ leaves_in ps = omega (arith, renewed_leaves a ps) in
          let place : leaves_in ps - leaf_total x ≡ leaves_in rest = omega arith in
          ap (λ t. cond t (Fork split (replaced x (leaves_in ps) p) y) (Fork split x (replaced y (leaves_in ps - leaf_total x) p))) (le-ltb (leaves_in ps) (leaf_total x) (omega arith))
          ∙ ap (λ k. Fork split x (replaced y k p)) place
          ∙ ap (Fork split x) (renewed_more b rest p (omega arith))
          ∙ ap (λ z. Fork split z (renewed b (rest ++ p ∷ [])).0) (sym (same_first a ps (p ∷ []) past))
          ∙ ap (λ rs. Fork split (renewed a (ps ++ p ∷ [])).0 (renewed b rs).0) (sym (more_over a ps (p ∷ []) past))
    ]

-- the leaf itself, which changes nothing
pub renewed_same : (t : Node) (path : Path) (ps : List Node) (l : Path × Duals) → slice_get (leaves_below path t) (length ps) ≡ Some l → (renewed t (ps ++ Leaf l.1 ∷ [])).0 ≡ (renewed t ps).0
renewed_same (Leaf d) path [] l here = ap (λ (m : Path × Duals). Leaf m.1) (sym (one_leaf_is (path, d) l here))
renewed_same (Leaf d) path (q ∷ qs) l here = cc
renewed_same (Fork split a b) path ps l here =
    let one : Path = path ++ first_step split ∷ [] in
    let other : Path = path ++ second_step split ∷ [] in
    let rest : List Node = (renewed a ps).1 in
    elim (cases_lt (length ps) (leaf_total a)) [
      | inl within ↦
          ap (λ z. Fork split z (renewed b (renewed a (ps ++ Leaf l.1 ∷ [])).1).0) (renewed_same a one ps l (sym (get_left (leaves_below one a) (leaves_below other b) (length ps) (omega (arith, as_many a one))) ∙ here))
          ∙ ap (Fork split (renewed a ps).0) (same_second a b ps (Leaf l.1) within)
      | inr past ↦
          let left : length rest + leaf_total a ≡ length ps = count_over a ps past in
          ap (λ z. Fork split z (renewed b (renewed a (ps ++ Leaf l.1 ∷ [])).1).0) (same_first a ps (Leaf l.1 ∷ []) past)
          ∙ ap (λ rs. Fork split (renewed a ps).0 (renewed b rs).0) (more_over a ps (Leaf l.1 ∷ []) past)
          ∙ ap (Fork split (renewed a ps).0) (renewed_same b other rest l (sym (get_right (leaves_below one a) (leaves_below other b) (length ps) (length rest) (omega (arith, as_many a one))) ∙ here))
    ]

-- The steps of a renewal.

pub leaves_in-push : (ps : List Node) (p : Node) → leaves_in (ps ++ p ∷ []) ≡ leaves_in ps + leaf_total p
leaves_in-push [] p = omega arith
leaves_in-push (q ∷ qs) p = omega (arith, leaves_in-push qs p)

pub same_renewing : (S C : List ℕ) (x y : Node) (m n : ℕ) (ls ks : List (Path × Duals)) → x ≡ y → m ≡ n → ls ≡ ks → (let r : Renewing = record { tree = record { sites = S; customers = C; root = x }; settled = m; ahead = ls } in r) ≡ (let r : Renewing = record { tree = record { sites = S; customers = C; root = y }; settled = n; ahead = ks } in r)
same_renewing S C x y m n ls ks e f g =
    ap (λ z. let r : Renewing = record { tree = record { sites = S; customers = C; root = z }; settled = m; ahead = ls } in r) e
    ∙ ap (λ k. let r : Renewing = record { tree = record { sites = S; customers = C; root = y }; settled = k; ahead = ls } in r) f
    ∙ ap (λ hs. let r : Renewing = record { tree = record { sites = S; customers = C; root = y }; settled = n; ahead = hs } in r) g

pub get_drop : {X : Type 0} (n : ℕ) (xs : List X) → slice_get (drop n xs) 0 ≡ slice_get xs n
get_drop zero xs = refl
get_drop (suc n) [] = refl
get_drop (suc n) (x ∷ xs) = get_drop n xs

pub begun_to : (t : Tree) → renewing_from t ≡ renewing_to t []
begun_to t = same_renewing t.sites t.customers _ _ _ _ _ _ (sym (renewed_none t.root)) refl refl

module _ (t : Tree) (ps : List Node) where
  ahead_less : (p : Node) → drop 1 (drop (length ps) (leaves_of t)) ≡ drop (length (ps ++ p ∷ [])) (leaves_of t)
  ahead_less p = let more : length ps + 1 ≡ length (ps ++ p ∷ []) = sym (length-append ps (p ∷ [])) in drop_drop 1 (length ps) (leaves_of t) ∙ ap (λ n. drop n (leaves_of t)) more

  -- the leaf at hand is the one behind those that are settled
  pub at_hand : (l : Path × Duals) → slice_get (renewing_to t ps).ahead 0 ≡ Some l → slice_get (leaves_of t) (length ps) ≡ Some l
  at_hand l here = sym (get_drop (length ps) (leaves_of t)) ∙ here

  pub stayed_to : (l : Path × Duals) → slice_get (renewing_to t ps).ahead 0 ≡ Some l → stayed (renewing_to t ps) ≡ renewing_to t (ps ++ Leaf l.1 ∷ [])
  stayed_to l here =
      same_renewing t.sites t.customers _ _ _ _ _ _ (sym (renewed_same t.root [] ps l (at_hand l here))) (sym (leaves_in-push ps (Leaf l.1))) (ahead_less (Leaf l.1))

  pub given_to : (part : Tree) → length ps < length (leaves_of t) → given (renewing_to t ps) part ≡ renewing_to t (ps ++ part.root ∷ [])
  given_to part few =
      same_renewing t.sites t.customers _ _ _ _ _ _ (renewed_more t.root ps part.root few) (sym (leaves_in-push ps part.root)) (ahead_less part.root)
