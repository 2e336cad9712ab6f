-- The nodes of a tree whose leaves are gone through, against the tree.
use Rattle.std.proofs.Common.{◌≡◌, ℕ, ◌+◌, ◌<◌, ◌≤◌, ◌^◌, refl, sym, ap, subst, ◌∙◌, arith, List, [], ◌∷◌, ◌++◌, length, length-append, reverse, drop, Option, Some, None}
use Rattle.std.specs.Prelude.{All, count_by, slice_get, IsSome}
use Rattle.std.proofs.lemmas.List.Elements.{All-append, All-same}
use Rattle.location_terms.specs.Box.{Path}
use Rattle.location_terms.specs.Bound.{Duals}
use Rattle.location_terms.specs.Tree.{Tree, nodes_of}
use Rattle.branch_tree.specs.declared.entry.Entry.{Entry}
use Rattle.branch_tree.specs.declared.entry.Entry.TheVariants.{End}
use Rattle.branch_tree.specs.Preorder.{flat, tree_of, tree_of-flat, tree_from, IsSound, IsStored}
use Rattle.branch_tree.specs.Leaf.{is_end, replaced}
use Rattle.branch_tree.specs.Walk.{next, leaves_ahead, leaves_from}
use Rattle.branch_tree.specs.Renewing.{Renewing, stayed, given, nodes_renewed}
use Rattle.branch_tree.proofs.Flat.{all_parts, length-flat}
use Rattle.branch_tree.proofs.Stored.{stored_size}
use Rattle.branch_tree.proofs.Growing.{put_flat, whole_from}
use Rattle.branch_tree.proofs.Renewing.{same_renewing}
use Rattle.branch_tree.proofs.Spliced.{flat_total}

-- while a leaf is left, one is at hand
pub leaf_left : (path : Path) (leaf : Option Duals) (es : List Entry) → 0 < length (leaves_from path leaf es) → IsSome leaf
leaf_left path None es left = absurd (omega arith)
leaf_left path (Some d) es left = refl

pub leaf_right : (path : Path) (leaf : Option Duals) (es : List Entry) (d : Duals) → leaf ≡ Some d → slice_get (leaves_from path leaf es) 0 ≡ Some (path, d)
leaf_right path leaf es d is = ap (λ o. slice_get (leaves_from path o es) 0) is

pub behind : (path : Path) (leaf : Option Duals) (es : List Entry) → IsSome leaf → leaves_ahead (next path) es ≡ drop 1 (leaves_from path leaf es)
behind path None es some = absurd cc
behind path (Some d) es some = refl

one_at : (leaf : Option Duals) → IsSome leaf → (d : Duals) × (leaf ≡ Some d)
one_at None some = absurd cc
one_at (Some d) some = (d, refl)

-- what the fields of a renewal stand for
abbrev pub renewal_seen : List ℕ → List ℕ → Path → List Entry → Option Duals → List Entry → Renewing
renewal_seen S C path done leaf ahead = record { tree = tree_from (S, (C, nodes_renewed done leaf ahead)); settled = count_by is_end done; ahead = leaves_from path leaf (reverse ahead) }

module _ (S C : List ℕ) (path : Path) (done : List Entry) (leaf : Option Duals) (ahead : List Entry) (stored : IsStored S C (nodes_renewed done leaf ahead)) (r : Renewing) (view_is : renewal_seen S C path done leaf ahead ≡ r) where
  pub renewal_left : 0 < length r.ahead → IsSome leaf
  renewal_left left = leaf_left path leaf (reverse ahead) (omega (arith, ap (λ x. length x.ahead) view_is))

  module _ (path' : Path) (done' : List Entry) (leaf' : Option Duals) (ahead' : List Entry) where
    -- the leaf at hand stays
    module _ (nodes : nodes_renewed done' leaf' ahead' ≡ nodes_renewed done leaf ahead) where
      pub stays_stored : IsStored S C (nodes_renewed done' leaf' ahead')
      stays_stored = subst (IsStored S C) (sym nodes) stored

      pub stays_seen : count_by is_end done' ≡ count_by is_end done + 1 → leaves_from path' leaf' (reverse ahead') ≡ drop 1 (leaves_from path leaf (reverse ahead)) → renewal_seen S C path' done' leaf' ahead' ≡ stayed r
      stays_seen count rest = same_renewing S C _ _ _ _ _ _ (ap tree_of nodes) count rest ∙ ap stayed view_is

    -- a part takes its place
    module _ (part : Tree) (entries : List Entry) (is : reverse entries ≡ flat part.root) (some : IsSome leaf) (nodes : nodes_renewed done' leaf' ahead' ≡ done ++ (reverse entries ++ reverse ahead)) where
      root_is : nodes_renewed done' leaf' ahead' ≡ flat (replaced (tree_of (nodes_renewed done leaf ahead)) (count_by is_end done) part.root)
      root_is =
          let at = one_at leaf some in
          let whole : done ++ End at.0 ∷ reverse ahead ≡ flat (tree_of (nodes_renewed done leaf ahead)) = ap (λ o. nodes_renewed done o ahead) (sym at.1) ∙ stored.whole in
          nodes
          ∙ ap (λ es. done ++ (es ++ reverse ahead)) is
          ∙ put_flat done (reverse ahead) at.0 (tree_of (nodes_renewed done leaf ahead)) part.root whole

      pub gives_stored : part.sites ≡ r.tree.sites → part.customers ≡ r.tree.customers → All (IsSound part.sites part.customers) (reverse entries) → nodes_of r.tree + nodes_of part ≤ 2 ^ 32 → IsStored S C (nodes_renewed done' leaf' ahead')
      gives_stored sites customers sound few =
          let at = one_at leaf some in
          let before : nodes_renewed done leaf ahead ≡ done ++ End at.0 ∷ reverse ahead = ap (λ o. nodes_renewed done o ahead) at.1 in
          let parts = all_parts (IsSound S C) done (End at.0 ∷ reverse ahead) (All-same (IsSound S C) _ _ (sym before) stored.sound) in
          let rest = all_parts (IsSound S C) (End at.0 ∷ []) (reverse ahead) parts.1 in
          let here : All (IsSound S C) (reverse entries) =
          subst (λ c. All (IsSound S c) (reverse entries)) (customers ∙ sym (ap (λ x. x.tree.customers) view_is))
          (subst (λ s. All (IsSound s part.customers) (reverse entries)) (sites ∙ sym (ap (λ x. x.tree.sites) view_is)) sound) in
          record {
            whole = whole_from _ _ root_is;
            sound = All-same (IsSound S C) _ _ nodes (All-append (IsSound S C) done (reverse entries ++ reverse ahead) parts.0 (All-append (IsSound S C) (reverse entries) (reverse ahead) here rest.1));
            few = omega (
              arith,
              ap length nodes,
              ap length before,
              ap length is,
              length-flat part.root,
              length-append done (reverse entries ++ reverse ahead),
              length-append (reverse entries) (reverse ahead),
              length-append done (End at.0 ∷ reverse ahead),
              stored_size stored,
              ap (λ x. nodes_of x.tree) view_is,
            );
          }

      pub gives_seen : count_by is_end done' ≡ count_by is_end done + count_by is_end (reverse entries) → leaves_from path' leaf' (reverse ahead') ≡ drop 1 (leaves_from path leaf (reverse ahead)) → renewal_seen S C path' done' leaf' ahead' ≡ given r part
      gives_seen count rest =
          same_renewing S C _ _ _ _ _ _
          (ap tree_of root_is ∙ tree_of-flat (replaced (tree_of (nodes_renewed done leaf ahead)) (count_by is_end done) part.root))
          (omega (arith, count, ap (count_by is_end) is, flat_total part.root))
          rest
          ∙ ap (λ x. given x part) view_is
