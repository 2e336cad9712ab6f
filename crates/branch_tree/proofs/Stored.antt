-- What holds of a tree that is stored as the list of its nodes.
use Rattle.std.proofs.Common.{◌≡◌, ℕ, ◌+◌, ◌*◌, ◌^◌, ◌<◌, sym, ap, subst, ◌∙◌, arith, List, [], ◌∷◌, ◌++◌, length, length-append, map, get_or, Some, option_map}
use Rattle.std.specs.Prelude.{All, slice_get}
use Rattle.std.proofs.lemmas.Option.{slice_get-map, slice_get-get_or}
use Rattle.std.proofs.lemmas.List.Elements.{All-same, All-cons, All-append}
use Rattle.location_terms.specs.declared.split.Split.{Split}
use Rattle.location_terms.specs.Split.{IsSplitAmong}
use Rattle.location_terms.specs.Tree.{Leaf, Fork, Tree, IsTree, nodes_of, size_of, leaves_of}
use Rattle.branch_tree.specs.declared.entry.Entry.{Entry}
use Rattle.branch_tree.specs.declared.entry.Entry.TheVariants.{End, Branch}
use Rattle.branch_tree.specs.Preorder.{flat, tree_of, tree_of-flat, IsSound, IsStored}
use Rattle.location_terms.specs.Instance.{Instance, site_ids, customer_ids}
use Rattle.location_terms.specs.Bound.{Duals}
use Rattle.location_terms.specs.Leaf.{LeafFits}
use Rattle.location_terms.proofs.Places.{length-site_ids, length-customer_ids}
use Rattle.branch_tree.specs.Made.{nodes_shown, entry_shown, leaf_of, forked}
use Rattle.branch_tree.proofs.Flat.{length-flat, leaves_and_splits, nodes_shown-flat, splits_sound, leaves_sound}

-- the tree that these lists store
abbrev pub seen : List ℕ → List ℕ → List Entry → Tree
seen S C n = record { sites = S; customers = C; root = tree_of n }

module _ {S C : List ℕ} {n : List Entry} (stored : IsStored S C n) where
  pub stored_size : length n ≡ size_of (tree_of n)
  stored_size = ap length stored.whole ∙ length-flat (tree_of n)

  pub stored_tree : IsTree (seen S C n)
  stored_tree =
      let sound : All (IsSound S C) (flat (tree_of n)) = subst (All (IsSound S C)) stored.whole stored.sound in
      record { splits = splits_sound S C (tree_of n) sound; leaves = leaves_sound S C (tree_of n) [] sound }

  pub stored_leaves : 2 * length (leaves_of (seen S C n)) ≡ length n + 1
  stored_leaves = leaves_and_splits (tree_of n) [] ∙ ap (λ k. k + 1) (sym stored_size)

  pub stored_shown : nodes_shown (tree_of n) ≡ map entry_shown n
  stored_shown = nodes_shown-flat (tree_of n) ∙ ap (map entry_shown) (sym stored.whole)

-- a tree of one entry
pub stored_end : (S C : List ℕ) (d : Duals) (n : List Entry) → n ≡ End d ∷ [] → IsSound S C (End d) → IsStored S C n
stored_end S C d n e sound = record {
  whole = e ∙ ap flat (sym (ap tree_of e ∙ tree_of-flat (Leaf d)));
  sound = All-same (IsSound S C) n (End d ∷ []) e (All-cons (IsSound S C) (End d) [] sound (λ k d' b. absurd (omega arith)));
  few = omega (arith, ap length e);
}

-- a split over two trees
module _ (split : Split) {S C S' C' : List ℕ} {m n : List Entry} (all : List Entry) (h : IsStored S C m) (k : IsStored S' C' n) (is : all ≡ Branch split ∷ (m ++ n)) where
  flat_joined : all ≡ flat (Fork split (tree_of m) (tree_of n))
  flat_joined = is ∙ ap (λ x. Branch split ∷ (x ++ n)) h.whole ∙ ap (λ x. Branch split ∷ (flat (tree_of m) ++ x)) k.whole

  pub joined_tree : tree_of all ≡ Fork split (tree_of m) (tree_of n)
  joined_tree = ap tree_of flat_joined ∙ tree_of-flat (Fork split (tree_of m) (tree_of n))

  module _ (x y : Tree) (v : seen S C m ≡ x) (u : seen S' C' n ≡ y) where
    pub joined_stored : y.sites ≡ x.sites → y.customers ≡ x.customers → IsSplitAmong x.sites x.customers split → nodes_of x + nodes_of y + 1 < 2 ^ 32 → IsStored S C all
    joined_stored same_sites same_customers named few =
        let sites : S' ≡ S = ap (λ t. t.sites) u ∙ same_sites ∙ sym (ap (λ t. t.sites) v) in
        let customers : C' ≡ C = ap (λ t. t.customers) u ∙ same_customers ∙ sym (ap (λ t. t.customers) v) in
        let second : All (IsSound S C) n = subst (λ c. All (IsSound S c) n) customers (subst (λ s. All (IsSound s C') n) sites k.sound) in
        let first : IsSound S C (Branch split) = subst (λ (t : Tree). IsSound t.sites t.customers (Branch split)) (sym v) named in
        record {
          whole = flat_joined ∙ ap flat (sym joined_tree);
          sound = All-same (IsSound S C) all (Branch split ∷ (m ++ n)) is (All-cons (IsSound S C) (Branch split) (m ++ n) first (All-append (IsSound S C) m n h.sound second));
          few = omega (arith, ap length is, length-append m n, stored_size h, stored_size k, ap nodes_of v, ap nodes_of u);
        }

    pub joined_seen : seen S C all ≡ forked split x y
    joined_seen =
        ap (λ r. let t : Tree = record { sites = S; customers = C; root = r } in t) joined_tree
        ∙ ap (λ t. forked split t (seen S' C' n)) v
        ∙ ap (forked split x) u

pub stored_shown_at : {S C : List ℕ} {n : List Entry} → IsStored S C n → (k : ℕ) (x : Entry) → k < length n → x ≡ get_or n k x → slice_get (nodes_shown (tree_of n)) k ≡ Some (entry_shown x)
stored_shown_at {S} {C} {n} stored k x within e =
    ap (λ xs. slice_get xs k) (stored_shown stored) ∙ slice_get-map entry_shown n k ∙ ap (option_map entry_shown) (slice_get-get_or n k x within ∙ ap Some (sym e))

-- one leaf on the instance's ids
pub leaf_stored : (I : Instance) (S C : List ℕ) (d : Duals) (n : List Entry) → LeafFits I d → S ≡ site_ids I → C ≡ customer_ids I → n ≡ End d ∷ [] → IsStored S C n
leaf_stored I S C d n fit sites customers e =
    stored_end S C d n e (fit.numbers.of_instance.sites ∙ sym (ap length sites ∙ length-site_ids I), fit.numbers.of_instance.customers ∙ sym (ap length customers ∙ length-customer_ids I), fit.numbers.in_limits, fit.prices)

pub leaf_seen : (I : Instance) (S C : List ℕ) (d : Duals) (n : List Entry) → S ≡ site_ids I → C ≡ customer_ids I → n ≡ End d ∷ [] → seen S C n ≡ leaf_of I d
leaf_seen I S C d n sites customers e =
    ap (λ s. let t : Tree = record { sites = s; customers = C; root = tree_of n } in t) sites
    ∙ ap (λ c. let t : Tree = record { sites = site_ids I; customers = c; root = tree_of n } in t) customers
    ∙ ap (λ r. let t : Tree = record { sites = site_ids I; customers = customer_ids I; root = r } in t) (ap tree_of e ∙ tree_of-flat (Leaf d))
