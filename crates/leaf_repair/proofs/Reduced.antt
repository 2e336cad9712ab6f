-- A tree that is carried over node by node: one step, the end, and what the leaves are then.
use Rattle.std.proofs.Common.{◌≡◌, ℕ, zero, suc, ◌+◌, ◌<◌, ◌≤◌, ◌&&◌, Bool, true, false, List, [], ◌∷◌, ◌++◌, length, length-append, drop, reverse, Option, Some, None, option_map, unwrap_or, refl, sym, ap, subst, ◌∙◌, arith}
use Rattle.std.specs.Prelude.{All, IsSome, slice_get, flat_map, if◌then◌else◌}
use Rattle.std.specs.Option.{option_and_then, option_to_list}
use Rattle.std.proofs.lemmas.Bool.{false≢true}
use Rattle.std.proofs.lemmas.List.{append_assoc, append-nil, reverse-append, length-drop}
use Rattle.std.proofs.lemmas.List.Elements.{All-nil, All-cons, All-head, All-append}
use Rattle.std.proofs.lemmas.Option.{slice_get-map, slice_get_within, get_or_from_slice_get}
use Rattle.location_terms.specs.declared.split.Split.{Split}
use Rattle.location_terms.specs.Instance.{Instance, site_ids, customer_ids}
use Rattle.location_terms.specs.Box.{Path}
use Rattle.location_terms.specs.Bound.{Duals}
use Rattle.location_terms.specs.Split.{first_step, second_step}
use Rattle.location_terms.specs.Leaf.{LeafFits}
use Rattle.location_terms.specs.Tree.{Node, Leaf, Fork, Tree, HasLists, leaves_below, nodes_of, size_of}
use Rattle.branch_tree.specs.declared.entry.Entry.{Entry}
use Rattle.branch_tree.specs.declared.entry.Entry.TheVariants.{End, Branch}
use Rattle.branch_tree.specs.declared.node.NodeKind.TheVariants as shown
use Rattle.branch_tree.specs.Preorder.{flat}
use Rattle.branch_tree.specs.Begun.{Begun, grown}
use Rattle.branch_tree.specs.Made.{nodes_shown, entry_shown, duals_of, duals_at}
use Rattle.branch_tree.proofs.Flat.{all_parts, length-flat, nodes_shown-flat}
use Rattle.leaf_repair.specs.CarriedTree.{carried_duals, knows_split, reduced}
use Rattle.leaf_repair.specs.UnderWay.{wanted_nodes, IsUnderWay, IsCourse}
use Rattle.leaf_repair.proofs.Fitting.{carried_fits}

some_node : (t : Node) → 1 ≤ size_of t
some_node (Leaf d) = omega arith
some_node (Fork split a b) = omega arith

-- the element at a place, and those behind it
behind : {X : Type 0} (n : ℕ) (xs : List X) (x : X) → slice_get xs n ≡ Some x → drop n xs ≡ x ∷ drop (suc n) xs
behind n [] x e = cc
behind zero (y ∷ ys) x e = cc
behind (suc n) (y ∷ ys) x e = behind n ys x e

one_more : (n : ℕ) → suc n ≡ n + 1
one_more n = omega arith

next : {X : Type 0} (n : ℕ) (xs : List X) (x : X) → slice_get xs n ≡ Some x → drop n xs ≡ x ∷ drop (n + 1) xs
next n xs x e = behind n xs x e ∙ ap (λ k. x ∷ drop k xs) (one_more n)

nothing_left : (ts : List Node) → [] ≡ flat_map flat ts → ts ≡ []
nothing_left [] e = refl
nothing_left (Leaf d ∷ ts) e = cc
nothing_left (Fork split a b ∷ ts) e = cc

past : {X : Type 0} (n : ℕ) (xs : List X) → n ≡ length xs → drop n xs ≡ []
past zero [] e = refl
past zero (x ∷ xs) e = absurd (omega (arith, e))
past (suc n) [] e = refl
past (suc n) (x ∷ xs) e = past n xs (omega (arith, e))

-- the entry that is shown as a split, or whose duals are told
shown_split : (o : Option Entry) (split : Split) → option_map entry_shown o ≡ Some (shown.Split split) → o ≡ Some (Branch split)
shown_split None split e = cc
shown_split (Some (End d)) split e = cc
shown_split (Some (Branch s)) split e = cc

told_end : (o : Option Entry) (d : Duals) → option_and_then duals_of o ≡ Some d → o ≡ Some (End d)
told_end None d e = cc
told_end (Some (End x)) d e = cc
told_end (Some (Branch s)) d e = cc

pub split_at : (t : Node) (n : ℕ) (split : Split) → slice_get (nodes_shown t) n ≡ Some (shown.Split split) → slice_get (flat t) n ≡ Some (Branch split)
split_at t n split e = shown_split (slice_get (flat t) n) split (sym (slice_get-map entry_shown (flat t) n) ∙ ap (λ xs. slice_get xs n) (sym (nodes_shown-flat t)) ∙ e)

pub leaf_at : (t : Node) (n : ℕ) (d : Duals) → duals_at t n ≡ Some d → slice_get (flat t) n ≡ Some (End d)
leaf_at t n d e = told_end (slice_get (flat t) n) d e

-- a leaf has its duals
pub leaf_told : (t : Node) (n : ℕ) → slice_get (nodes_shown t) n ≡ Some shown.Leaf → duals_at t n ≡ None → ⊥
leaf_told t n e none = by (slice_get (flat t) n) (sym (slice_get-map entry_shown (flat t) n) ∙ ap (λ xs. slice_get xs n) (sym (nodes_shown-flat t)) ∙ e) none
  where
    by : (o : Option Entry) → option_map entry_shown o ≡ Some shown.Leaf → option_and_then duals_of o ≡ None → ⊥
    by None f g = cc
    by (Some (End d)) f g = cc
    by (Some (Branch s)) f g = cc

-- a leaf of a tree, by its place among the nodes
module _ (m n : ℕ) where
  abbrev Lists : Entry → Type 0
  Lists (End d) = HasLists m n d
  Lists (Branch split) = Unit {0}

  all_lists : (t : Node) (path : Path) → All (λ l. HasLists m n l.1) (leaves_below path t) → All Lists (flat t)
  all_lists (Leaf d) path h = All-cons Lists (End d) [] (All-head (λ l. HasLists m n l.1) (path, d) [] h) (All-nil Lists)
  all_lists (Fork split a b) path h =
      let parts = all_parts (λ l. HasLists m n l.1) (leaves_below (path ++ first_step split ∷ []) a) (leaves_below (path ++ second_step split ∷ []) b) h in
      All-cons Lists (Branch split) (flat a ++ flat b) tt (All-append Lists (flat a) (flat b) (all_lists a (path ++ first_step split ∷ []) parts.0) (all_lists b (path ++ second_step split ∷ []) parts.1))

  pub lists_at : (t : Node) (k : ℕ) (d : Duals) → All (λ l. HasLists m n l.1) (leaves_below [] t) → slice_get (flat t) k ≡ Some (End d) → HasLists m n d
  lists_at t k d h e = subst Lists (get_or_from_slice_get (flat t) k (End d) (End d) e) (all_lists t [] h k (End d) (slice_get_within (flat t) k (End d) e))

module _ (I : Instance) (sites customers : List ℕ) where
  reduced_size : (t : Node) → size_of (reduced I sites customers t) ≤ size_of t
  reduced_size (Leaf d) = omega arith
  reduced_size (Fork split a b) = by (knows_split I split) (reduced_size a) (reduced_size b)
    where
      by : (known : Bool) → size_of (reduced I sites customers a) ≤ size_of a → size_of (reduced I sites customers b) ≤ size_of b
          → size_of (if known then Fork split (reduced I sites customers a) (reduced I sites customers b) else reduced I sites customers a) ≤ size_of (Fork split a b)
      by true low high = omega (arith, low, high)
      by false low high = omega (arith, low)

  -- each leaf that went over suits the instance
  pub reduced_fits : (t : Node) (before now : Path) → All (λ l. HasLists (length sites) (length customers) l.1) (leaves_below before t) → All (λ l. LeafFits I l.1) (leaves_below now (reduced I sites customers t))
  reduced_fits (Leaf d) before now h =
      All-cons (λ l. LeafFits I l.1) (now, carried_duals I sites customers d) [] (carried_fits I sites customers d (All-head (λ l. HasLists (length sites) (length customers) l.1) (before, d) [] h)) (All-nil (λ l. LeafFits I l.1))
  reduced_fits (Fork split a b) before now h =
      let parts = all_parts (λ l. HasLists (length sites) (length customers) l.1) (leaves_below (before ++ first_step split ∷ []) a) (leaves_below (before ++ second_step split ∷ []) b) h in
      by (knows_split I split) (λ path. reduced_fits a (before ++ first_step split ∷ []) path parts.0) (λ path. reduced_fits b (before ++ second_step split ∷ []) path parts.1)
    where
      by : (known : Bool) → ((path : Path) → All (λ l. LeafFits I l.1) (leaves_below path (reduced I sites customers a))) → ((path : Path) → All (λ l. LeafFits I l.1) (leaves_below path (reduced I sites customers b)))
          → All (λ l. LeafFits I l.1) (leaves_below now (if known then Fork split (reduced I sites customers a) (reduced I sites customers b) else reduced I sites customers a))
      by true first second =
          All-append (λ l. LeafFits I l.1) (leaves_below (now ++ first_step split ∷ []) (reduced I sites customers a)) (leaves_below (now ++ second_step split ∷ []) (reduced I sites customers b))
          (first (now ++ first_step split ∷ [])) (second (now ++ second_step split ∷ []))
      by false first second = first now

module _ (I : Instance) (t : Tree) where
  abbrev whole : List Entry
  whole = flat (reduced I t.sites t.customers t.root)

  abbrev to_go : List Bool → List Node → List Entry
  to_go wanted ahead = wanted_nodes I t.sites t.customers wanted ahead

  pub started : IsUnderWay I t 0 [] (true ∷ [])
  started = record { ahead = t.root ∷ []; left = sym (append-nil (flat t.root)); told = refl; due = append-nil whole }

  none_to_go : (wanted : List Bool) → to_go wanted [] ≡ []
  none_to_go [] = refl
  none_to_go (w ∷ ws) = refl

  pub ended : (n : ℕ) (over : List Entry) (wanted : List Bool) → IsUnderWay I t n over wanted → n ≡ nodes_of t → over ≡ whole
  ended n over wanted way all =
      let none : way.ahead ≡ [] = nothing_left way.ahead (sym (past n (flat t.root) (omega (arith, all, length-flat t.root))) ∙ way.left) in
      sym (append-nil over) ∙ ap (λ xs. over ++ xs) (sym (none_to_go (reverse wanted)) ∙ ap (to_go (reverse wanted)) (sym none)) ∙ way.due

  module _ (n : ℕ) (over : List Entry) (ws : List Bool) (w : Bool) (way : IsUnderWay I t n over (ws ++ w ∷ [])) where
    flags : reverse (ws ++ w ∷ []) ≡ w ∷ reverse ws
    flags = reverse-append ws (w ∷ [])

    due : over ++ to_go (w ∷ reverse ws) way.ahead ≡ whole
    due = ap (λ fs. over ++ to_go fs way.ahead) (sym flags) ∙ way.due

    -- where the next tree is wanted, there is room for its node
    pub room : n < nodes_of t → w ≡ true → length over + 1 ≤ nodes_of t
    room more is = by way.ahead way.left (ap (λ f. over ++ to_go (f ∷ reverse ws) way.ahead) (sym is) ∙ due)
      where
        by : (ahead : List Node) → drop n (flat t.root) ≡ flat_map flat ahead → over ++ to_go (true ∷ reverse ws) ahead ≡ whole → length over + 1 ≤ nodes_of t
        by [] left e = absurd (omega (arith, more, length-flat t.root, length-drop n (flat t.root), ap length left))
        by (x ∷ xs) left e =
            let r : Node = reduced I t.sites t.customers x in
            omega (arith, ap length e, length-append over (flat r ++ to_go (reverse ws) xs), length-append (flat r) (to_go (reverse ws) xs), length-flat r, some_node r, length-flat (reduced I t.sites t.customers t.root), reduced_size I t.sites t.customers t.root)

    -- a leaf is passed
    pub leaf_passed : (d : Duals) → slice_get (flat t.root) n ≡ Some (End d) → IsUnderWay I t (n + 1) (if w then over ++ End (carried_duals I t.sites t.customers d) ∷ [] else over) ws
    leaf_passed d here = by way.ahead (sym (next n (flat t.root) (End d) here) ∙ way.left) way.told due
      where
        new : Entry
        new = End (carried_duals I t.sites t.customers d)

        goes : (f : Bool) (x : Duals) (xs : List Node) → d ≡ x → over ++ to_go (f ∷ reverse ws) (Leaf x ∷ xs) ≡ whole → (if f then over ++ End (carried_duals I t.sites t.customers d) ∷ [] else over) ++ to_go (reverse ws) xs ≡ whole
        goes true x xs same e = append_assoc over (End (carried_duals I t.sites t.customers d) ∷ []) (to_go (reverse ws) xs) ∙ ap (λ y. over ++ End (carried_duals I t.sites t.customers y) ∷ to_go (reverse ws) xs) same ∙ e
        goes false x xs same e = e

        by : (ahead : List Node) → End d ∷ drop (n + 1) (flat t.root) ≡ flat_map flat ahead → length ahead ≡ length (ws ++ w ∷ []) → over ++ to_go (w ∷ reverse ws) ahead ≡ whole → IsUnderWay I t (n + 1) (if w then over ++ End (carried_duals I t.sites t.customers d) ∷ [] else over) ws
        by [] left told e = cc
        by (Leaf x ∷ xs) left told e =
            let same : d ≡ x = cc in
            let rest : drop (n + 1) (flat t.root) ≡ flat_map flat xs = cc in
            record { ahead = xs; left = rest; told = omega (arith, told, length-append ws (w ∷ [])); due = goes w x xs same e }
        by (Fork split a b ∷ xs) left told e = cc

    -- a split is passed
    pub split_passed : (split : Split) → slice_get (flat t.root) n ≡ Some (Branch split)
        → IsUnderWay I t (n + 1) (if w && knows_split I split then over ++ Branch split ∷ [] else over) ((ws ++ (w && knows_split I split) ∷ []) ++ w ∷ [])
    split_passed split here = by way.ahead (sym (next n (flat t.root) (Branch split) here) ∙ way.left) way.told due
      where
        two_flags : reverse ((ws ++ (w && knows_split I split) ∷ []) ++ w ∷ []) ≡ w ∷ (w && knows_split I split) ∷ reverse ws
        two_flags = reverse-append (ws ++ (w && knows_split I split) ∷ []) (w ∷ []) ∙ ap (λ fs. w ∷ fs) (reverse-append ws ((w && knows_split I split) ∷ []))

        goes : (f known : Bool) (a b : Node) (xs : List Node)
            → over ++ wanted_nodes I t.sites t.customers (f ∷ reverse ws) (Fork split a b ∷ xs) ≡ whole → knows_split I split ≡ known
            → (if f && known then over ++ Branch split ∷ [] else over) ++ to_go (f ∷ (f && known) ∷ reverse ws) (a ∷ b ∷ xs) ≡ whole
        goes true true a b xs e is =
            let ra : List Entry = flat (reduced I t.sites t.customers a) in
            let rb : List Entry = flat (reduced I t.sites t.customers b) in
            let rest : List Entry = to_go (reverse ws) xs in
            let folded : over ++ (flat (Fork split (reduced I t.sites t.customers a) (reduced I t.sites t.customers b)) ++ rest) ≡ whole =
            ap (λ k. over ++ (flat (if k then Fork split (reduced I t.sites t.customers a) (reduced I t.sites t.customers b) else reduced I t.sites t.customers a) ++ rest)) (sym is) ∙ e in
            append_assoc over (Branch split ∷ []) (ra ++ (rb ++ rest)) ∙ ap (λ ys. over ++ Branch split ∷ ys) (sym (append_assoc ra rb rest)) ∙ folded
        goes true false a b xs e is =
            let rest : List Entry = to_go (reverse ws) xs in
            ap (λ k. over ++ (flat (if k then Fork split (reduced I t.sites t.customers a) (reduced I t.sites t.customers b) else reduced I t.sites t.customers a) ++ rest)) (sym is) ∙ e
        goes false known a b xs e is = e

        by : (ahead : List Node) → Branch split ∷ drop (n + 1) (flat t.root) ≡ flat_map flat ahead → length ahead ≡ length (ws ++ w ∷ []) → over ++ to_go (w ∷ reverse ws) ahead ≡ whole
            → IsUnderWay I t (n + 1) (if w && knows_split I split then over ++ Branch split ∷ [] else over) ((ws ++ (w && knows_split I split) ∷ []) ++ w ∷ [])
        by [] left told e = cc
        by (Leaf x ∷ xs) left told e = cc
        by (Fork s a b ∷ xs) left told e =
            let same : s ≡ split = cc in
            let rest : drop (n + 1) (flat t.root) ≡ (flat a ++ flat b) ++ flat_map flat xs = cc in
            record {
              ahead = a ∷ b ∷ xs;
              left = rest ∙ append_assoc (flat a) (flat b) (flat_map flat xs);
              told = omega (arith, told, length-append ws (w ∷ []), length-append ws ((w && knows_split I split) ∷ []), length-append (ws ++ (w && knows_split I split) ∷ []) (w ∷ []));
              due = ap (λ fs. (if (w && knows_split I split) then over ++ Branch split ∷ [] else over) ++ to_go fs (a ∷ b ∷ xs)) two_flags ∙ goes w (knows_split I split) a b xs (ap (λ y. over ++ to_go (w ∷ reverse ws) (Fork y a b ∷ xs)) (sym same) ∙ e) refl;
            }

-- while a tree is still to come there is a flag for it
flag_left : (I : Instance) (t : Tree) (n : ℕ) (over : List Entry) (wanted : List Bool) → IsUnderWay I t n over wanted → n < nodes_of t → 1 ≤ length wanted
flag_left I t n over wanted way more = by way.ahead way.left way.told
  where
    by : (ahead : List Node) → drop n (flat t.root) ≡ flat_map flat ahead → length ahead ≡ length wanted → 1 ≤ length wanted
    by [] left told = absurd (omega (arith, more, length-flat t.root, length-drop n (flat t.root), ap length left))
    by (x ∷ xs) left told = omega (arith, told)

-- the last flag is taken off
pub flag_taken : (I : Instance) (t : Tree) (n : ℕ) (over : List Entry) (old ws : List Bool) (r : Option Bool) (w : Bool) → IsUnderWay I t n over old → n < nodes_of t → old ≡ ws ++ option_to_list r → (0 < length old → IsSome r) → w ≡ unwrap_or r false
    → IsUnderWay I t n over (ws ++ w ∷ [])
flag_taken I t n over old ws None w way more e found is = let left = flag_left I t n over old way more in absurd (false≢true (found (omega (arith, left))))
flag_taken I t n over old ws (Some b) w way more e found is = subst (IsUnderWay I t n over) (e ∙ ap (λ f. ws ++ f ∷ []) (sym is)) way

-- one node more or none
more_if : (k : Bool) (b : Begun) (e : Entry) → ((if k then grown b e else b).sites ≡ b.sites) × ((if k then grown b e else b).customers ≡ b.customers) × ((if k then grown b e else b).entries ≡ (if k then b.entries ++ e ∷ [] else b.entries))
more_if true b e = (refl, refl, refl)
more_if false b e = (refl, refl, refl)

module _ (I : Instance) (t : Tree) (n : ℕ) (over : Begun) (sites : over.sites ≡ site_ids I) (customers : over.customers ≡ customer_ids I) (ws : List Bool) (w : Bool) (way : IsUnderWay I t n over.entries (ws ++ w ∷ [])) where
  pub after_leaf : (d : Duals) (new : Begun) → slice_get (flat t.root) n ≡ Some (End d) → new ≡ (if w then grown over (End (carried_duals I t.sites t.customers d)) else over) → IsCourse I t (n + 1) new ws
  after_leaf d new here e =
      let parts = more_if w over (End (carried_duals I t.sites t.customers d)) in
      subst (λ b. IsCourse I t (n + 1) b ws) (sym e)
      (record { sites = parts.0 ∙ sites; customers = parts.1 ∙ customers; way = subst (λ es. IsUnderWay I t (n + 1) es ws) (sym parts.2) (leaf_passed I t n over.entries ws w way d here) })

  pub after_split : (split : Split) (new : Begun) (wanted : List Bool) → slice_get (flat t.root) n ≡ Some (Branch split) → new ≡ (if w && knows_split I split then grown over (Branch split) else over)
      → wanted ≡ (ws ++ (w && knows_split I split) ∷ []) ++ w ∷ [] → IsCourse I t (n + 1) new wanted
  after_split split new wanted here e flagged =
      let parts = more_if (w && knows_split I split) over (Branch split) in
      subst (λ b. IsCourse I t (n + 1) b wanted) (sym e)
      (subst (IsCourse I t (n + 1) (if w && knows_split I split then grown over (Branch split) else over)) (sym flagged)
      (record { sites = parts.0 ∙ sites; customers = parts.1 ∙ customers; way = subst (λ es. IsUnderWay I t (n + 1) es ((ws ++ (w && knows_split I split) ∷ []) ++ w ∷ [])) (sym parts.2) (split_passed I t n over.entries ws w way split here) }))
