-- Another tree in the place of a leaf.
use Rattle.std.proofs.Common.{◌≡◌, ℕ, ◌+◌, ◌-◌, ◌<◌, ◌≤◌, ◌^◌, zero, suc, refl, sym, ap, subst, ◌∙◌, inl, inr, arith, add-one, true, cond, List, [], ◌∷◌, ◌++◌, length, length-append, get_or, take, drop, Some}
use Rattle.std.specs.Prelude.{All, count_by, slice_get}
use Rattle.std.specs.List.{splice}
use Rattle.std.proofs.lemmas.Bool.{cases_lt, lt-ltb, le-ltb}
use Rattle.std.proofs.lemmas.Option.{slice_get-get_or}
use Rattle.std.proofs.lemmas.List.{append_assoc, append-nil, take-append-le}
use Rattle.std.proofs.lemmas.List.Elements.{All-append, All-take, All-drop, All-same}
use Rattle.location_terms.specs.Bound.{Duals}
use Rattle.location_terms.specs.declared.split.Split.{Split}
use Rattle.location_terms.specs.Tree.{Node, Leaf, Fork, Tree, nodes_of}
use Rattle.branch_tree.specs.declared.entry.Entry.{Entry}
use Rattle.branch_tree.specs.declared.entry.Entry.TheVariants.{End, Branch}
use Rattle.branch_tree.specs.Preorder.{flat, no_duals, tree_of, tree_of-flat, IsSound, IsStored}
use Rattle.branch_tree.specs.Leaf.{is_end, leaf_total, replaced, replaced_in}
use Rattle.branch_tree.proofs.Stored.{seen, stored_size}
use Rattle.branch_tree.proofs.Ahead.{ahead_from_root}
use Rattle.branch_tree.proofs.Found.{counted_end, counted_branch, leaves_counted, ended}

-- another list in the place of the entry at p
abbrev pub put : List Entry → ℕ → List Entry → List Entry
put n p m = splice n p (p + 1) m

put_first : (e : Entry) (es m : List Entry) → put (e ∷ es) 0 m ≡ m ++ es
put_first e es m = refl

put_later : (e : Entry) (es m : List Entry) (p : ℕ) → put (e ∷ es) (suc p) m ≡ e ∷ put es p m
put_later e es m p = rw (add-one, add-one) refl

put_left : (xs ys m : List Entry) (p : ℕ) → p < length xs → put (xs ++ ys) p m ≡ put xs p m ++ ys
put_left [] ys m p h = absurd (omega arith)
put_left (x ∷ xs) ys m zero h = sym (append_assoc m xs ys)
put_left (x ∷ xs) ys m (suc p) h = put_later x (xs ++ ys) m p ∙ ap (λ es. x ∷ es) (put_left xs ys m p (omega arith)) ∙ ap (λ es. es ++ ys) (sym (put_later x xs m p))

pub put_right : (xs ys m : List Entry) (p q : ℕ) → p ≡ length xs + q → put (xs ++ ys) p m ≡ xs ++ put ys q m
put_right [] ys m p q h = let same : p ≡ q = omega arith in ap (λ k. put ys k m) same
put_right (x ∷ xs) ys m zero q h = absurd (omega arith)
put_right (x ∷ xs) ys m (suc p) q h = put_later x (xs ++ ys) m p ∙ ap (λ es. x ∷ es) (put_right xs ys m p q (omega arith))

-- how many leaves stand before a place
abbrev pub before : List Entry → ℕ → ℕ
before n p = count_by is_end (take p n)

before_left : (xs ys : List Entry) (p : ℕ) → p ≤ length xs → before (xs ++ ys) p ≡ before xs p
before_left xs ys p h = ap (count_by is_end) (take-append-le p xs ys h)

pub counted-append : (xs ys : List Entry) → count_by is_end (xs ++ ys) ≡ count_by is_end xs + count_by is_end ys
counted-append [] ys = omega arith
counted-append (End d ∷ xs) ys = omega (arith, counted_end d (xs ++ ys), counted_end d xs, counted-append xs ys)
counted-append (Branch split ∷ xs) ys = omega (arith, counted_branch split (xs ++ ys), counted_branch split xs, counted-append xs ys)

pub flat_total : (t : Node) → count_by is_end (flat t) ≡ leaf_total t
flat_total t = sym (leaves_counted [] (flat t)) ∙ ap length (ahead_from_root t)

-- a leaf that stands in the list has fewer before it than there are
before_less : (n : List Entry) (p : ℕ) (d : Duals) → slice_get n p ≡ Some (End d) → before n p < count_by is_end n
before_less [] p d h = cc
before_less (End e ∷ es) zero d h = omega (arith, counted_end e es)
before_less (Branch split ∷ es) zero d h = cc
before_less (End e ∷ es) (suc p) d h = omega (arith, counted_end e es, counted_end e (take p es), before_less es p d h)
before_less (Branch split ∷ es) (suc p) d h = omega (arith, counted_branch split es, counted_branch split (take p es), before_less es p d h)

take_right : (xs ys : List Entry) (p q : ℕ) → p ≡ length xs + q → take p (xs ++ ys) ≡ xs ++ take q ys
take_right [] ys p q h = let same : p ≡ q = omega arith in ap (λ k. take k ys) same
take_right (x ∷ xs) ys zero q h = absurd (omega arith)
take_right (x ∷ xs) ys (suc p) q h = ap (λ es. x ∷ es) (take_right xs ys p q (omega arith))

pub get_left : {X : Type 0} (xs ys : List X) (p : ℕ) → p < length xs → slice_get (xs ++ ys) p ≡ slice_get xs p
get_left [] ys p h = absurd (omega arith)
get_left (x ∷ xs) ys zero h = refl
get_left (x ∷ xs) ys (suc p) h = get_left xs ys p (omega arith)

pub get_right : {X : Type 0} (xs ys : List X) (p q : ℕ) → p ≡ length xs + q → slice_get (xs ++ ys) p ≡ slice_get ys q
get_right [] ys p q h = let same : p ≡ q = omega arith in ap (slice_get ys) same
get_right (x ∷ xs) ys zero q h = absurd (omega arith)
get_right (x ∷ xs) ys (suc p) q h = get_right xs ys p q (omega arith)

-- what a split does with a part that goes in the place of leaf k
module _ (part : Node) where
  abbrev Puts : Node → Type 0
  Puts t = (p k : ℕ) (d : Duals) → slice_get (flat t) p ≡ Some (End d) → before (flat t) p ≡ k → flat (replaced t k part) ≡ put (flat t) p (flat part)

  puts_below : (split : Split) (a b : Node) → Puts a → Puts b → (p k : ℕ) (d : Duals) → slice_get (flat a ++ flat b) p ≡ Some (End d) → before (flat a ++ flat b) p ≡ k
      → flat (replaced (Fork split a b) k part) ≡ Branch split ∷ put (flat a ++ flat b) p (flat part)
  puts_below split a b on_a on_b p k d here count =
      elim (cases_lt p (length (flat a))) [
        | inl left ↦
            let found : slice_get (flat a) p ≡ Some (End d) = sym (get_left (flat a) (flat b) p left) ∙ here in
            let counted : before (flat a) p ≡ k = sym (before_left (flat a) (flat b) p (omega arith)) ∙ count in
            let few : k < leaf_total a = omega (arith, before_less (flat a) p d found, flat_total a) in
            ap (λ t. flat (cond t (Fork split (replaced a k part) b) (Fork split a (replaced b (k - leaf_total a) part)))) (lt-ltb k (leaf_total a) few)
            ∙ ap (λ es. Branch split ∷ (es ++ flat b)) (on_a p k d found counted)
            ∙ ap (λ es. Branch split ∷ es) (sym (put_left (flat a) (flat b) (flat part) p left))
        | inr right ↦
            let place : p ≡ length (flat a) + (p - length (flat a)) = omega arith in
            let found : slice_get (flat b) (p - length (flat a)) ≡ Some (End d) = sym (get_right (flat a) (flat b) p (p - length (flat a)) place) ∙ here in
            let all : before (flat a ++ flat b) p ≡ leaf_total a + before (flat b) (p - length (flat a)) = ap (count_by is_end) (take_right (flat a) (flat b) p (p - length (flat a)) place) ∙ counted-append (flat a) (take (p - length (flat a)) (flat b)) ∙ ap (λ m. m + before (flat b) (p - length (flat a))) (flat_total a) in
            ap (λ t. flat (cond t (Fork split (replaced a k part) b) (Fork split a (replaced b (k - leaf_total a) part)))) (le-ltb k (leaf_total a) (omega arith))
            ∙ ap (λ es. Branch split ∷ (flat a ++ es)) (on_b (p - length (flat a)) (k - leaf_total a) d found (omega arith))
            ∙ ap (λ es. Branch split ∷ es) (sym (put_right (flat a) (flat b) (flat part) p (p - length (flat a)) place))
      ]

  pub flat_replaced : (t : Node) → Puts t
  flat_replaced (Leaf x) zero k d here count = sym (append-nil (flat part))
  flat_replaced (Leaf x) (suc p) k d here count = cc
  flat_replaced (Fork split a b) zero k d here count = cc
  flat_replaced (Fork split a b) (suc p) k d here count = puts_below split a b (flat_replaced a) (flat_replaced b) p k d here (sym (counted_branch split (take p (flat a ++ flat b))) ∙ count) ∙ sym (put_later (Branch split) (flat a ++ flat b) (flat part) p)

length_put : (n m : List Entry) (p : ℕ) → p < length n → length (put n p m) + 1 ≡ length n + length m
length_put [] m p h = absurd (omega arith)
length_put (x ∷ xs) m zero h = omega (arith, length-append m xs)
length_put (x ∷ xs) m (suc p) h = omega (arith, ap length (put_later x xs m p), length_put xs m p (omega arith))

module _ {S C : List ℕ} {n : List Entry} (stored : IsStored S C n) {S' C' : List ℕ} {m : List Entry} (part : IsStored S' C' m) (p k : ℕ) (inside : p < length n) (leaf : (e : Entry) → is_end (get_or n p e) ≡ true) (count : before n p ≡ k) (r : List Entry) (is : r ≡ splice n p (p + 1) m) where
  spliced_flat : r ≡ flat (replaced (tree_of n) k (tree_of m))
  spliced_flat =
      let found : (d : Duals) × (get_or n p (End no_duals) ≡ End d) = ended (get_or n p (End no_duals)) (leaf (End no_duals)) in
      let here : slice_get (flat (tree_of n)) p ≡ Some (End found.0) = subst (λ xs. slice_get xs p ≡ Some (End found.0)) stored.whole (slice_get-get_or n p (End no_duals) inside ∙ ap Some found.1) in
      is ∙ ap (λ xs. put xs p m) stored.whole ∙ ap (put (flat (tree_of n)) p) part.whole
      ∙ sym (flat_replaced (tree_of m) (tree_of n) p k found.0 here (subst (λ xs. before xs p ≡ k) stored.whole count))

  pub spliced_seen : (x y : Tree) → seen S C n ≡ x → seen S' C' m ≡ y → seen S C r ≡ replaced_in x k y
  spliced_seen x y v w =
      ap (λ t. let s : Tree = record { sites = S; customers = C; root = t } in s) (ap tree_of spliced_flat ∙ tree_of-flat (replaced (tree_of n) k (tree_of m)))
      ∙ ap (λ t. replaced_in t k (seen S' C' m)) v
      ∙ ap (replaced_in x k) w

  pub spliced_stored : (x y : Tree) → seen S C n ≡ x → seen S' C' m ≡ y → y.sites ≡ x.sites → y.customers ≡ x.customers → nodes_of x + nodes_of y ≤ 2 ^ 32 → IsStored S C r
  spliced_stored x y v w same_sites same_customers few =
      let sites : S' ≡ S = ap (λ t. t.sites) w ∙ same_sites ∙ sym (ap (λ t. t.sites) v) in
      let customers : C' ≡ C = ap (λ t. t.customers) w ∙ same_customers ∙ sym (ap (λ t. t.customers) v) in
      let second : All (IsSound S C) m = subst (λ c. All (IsSound S c) m) customers (subst (λ s. All (IsSound s C') m) sites part.sound) in
      record {
        whole = spliced_flat ∙ ap flat (sym (ap tree_of spliced_flat ∙ tree_of-flat (replaced (tree_of n) k (tree_of m))));
        sound = All-same (IsSound S C) r (take p n ++ (m ++ drop (p + 1) n)) is (All-append (IsSound S C) (take p n) (m ++ drop (p + 1) n) (All-take (IsSound S C) p n stored.sound) (All-append (IsSound S C) m (drop (p + 1) n) second (All-drop (IsSound S C) (p + 1) n stored.sound)));
        few = omega (arith, ap length is, length_put n m p inside, stored_size stored, stored_size part, ap nodes_of v, ap nodes_of w);
      }
