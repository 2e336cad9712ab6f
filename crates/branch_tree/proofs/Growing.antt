-- What is kept of a tree that grows, against the tree: the leaf at work, and another tree in its place.
use Rattle.std.proofs.Common.{◌≡◌, ℕ, ◌+◌, ◌-◌, ◌<◌, ◌≤◌, ◌^◌, refl, sym, ap, subst, ◌∙◌, arith, List, [], ◌∷◌, ◌++◌, length, length-append, take, reverse, Option, Some, None}
use Rattle.std.specs.Prelude.{All, count_by, slice_get, fold}
use Rattle.std.proofs.lemmas.List.{append_assoc, append-nil, take-append-le, take_all, length-map}
use Rattle.std.proofs.lemmas.List.Elements.{All-append, All-same, All-cons, All-nil}
use Rattle.location_terms.specs.declared.split.Split.{Split}
use Rattle.location_terms.specs.Box.{Path}
use Rattle.location_terms.specs.Split.{second_step, IsSplitAmong}
use Rattle.location_terms.specs.Bound.{Duals}
use Rattle.location_terms.specs.Tree.{Node, Leaf, Fork, HasLists, leaves_below, nodes_of}
use Rattle.branch_tree.specs.declared.entry.Entry.{Entry}
use Rattle.branch_tree.specs.declared.entry.Entry.TheVariants.{End, Branch}
use Rattle.branch_tree.specs.declared.open_split.OpenSplit.{OpenSplit}
use Rattle.branch_tree.specs.Preorder.{flat, tree_of, tree_of-flat, tree_from, IsSound}
use Rattle.branch_tree.specs.Leaf.{is_end, replaced}
use Rattle.branch_tree.specs.Walk.{passed, leaves_ahead}
use Rattle.branch_tree.specs.Growing.{Growing, leaf_at_work, worked, split_in_two}
use Rattle.branch_tree.specs.OpenSplits.{ends_of, entries_of, step_of, entries_above, steps_above, nodes_kept, base_of, IsKept}
use Rattle.branch_tree.proofs.Flat.{all_parts, length-flat}
use Rattle.branch_tree.proofs.Ahead.{ahead-flat, next_child}
use Rattle.branch_tree.proofs.Found.{counted_end, counted_branch, leaf_found}
use Rattle.branch_tree.proofs.Spliced.{put, put_right, before, get_right, counted-append, flat_replaced}
use Rattle.branch_tree.proofs.OpenSplits.{open_of, entries_are, steps_are}

-- what the fields of a growth stand for
abbrev pub grown_seen : List ℕ → List ℕ → Path → List OpenSplit → Option Duals → List Entry → Growing
grown_seen S C path above work done = record { tree = tree_from (S, (C, nodes_kept above work done)); base = base_of path above; left = count_by is_end (entries_above above ++ ends_of work) }

same_growing : (S C : List ℕ) (root root' : Node) (base base' : Path) (left left' : ℕ) → root ≡ root' → base ≡ base' → left ≡ left' → (let g : Growing = record { tree = record { sites = S; customers = C; root = root }; base = base; left = left } in g) ≡ (let h : Growing = record { tree = record { sites = S; customers = C; root = root' }; base = base'; left = left' } in h)
same_growing S C root root' base base' left left' e f g =
    ap (λ x. let h : Growing = record { tree = record { sites = S; customers = C; root = x }; base = base; left = left } in h) e
    ∙ ap (λ x. let h : Growing = record { tree = record { sites = S; customers = C; root = root' }; base = x; left = left } in h) f
    ∙ ap (λ x. let h : Growing = record { tree = record { sites = S; customers = C; root = root' }; base = base'; left = x } in h) g

take_front : {X : Type 0} (xs ys : List X) → take (length xs) (xs ++ ys) ≡ xs
take_front xs ys = take-append-le (length xs) xs ys (omega arith) ∙ take_all (length xs) xs (omega arith)

base_is : (path base : Path) (above : List OpenSplit) → path ≡ base ++ steps_above above → base_of path above ≡ base
base_is path base above leads =
    let long : length path - length above ≡ length base = omega (arith, ap length leads, length-append base (steps_above above), length-map above step_of) in
    ap (λ k. take k path) long ∙ ap (take (length base)) leads ∙ take_front base (steps_above above)

-- the path that a walk over the open splits comes to
split_passed : (base : Path) (s : Split) (first : Option Duals) (es : List Entry) → fold passed base (entries_of (open_of s first) ++ es) ≡ fold passed (base ++ step_of (open_of s first) ∷ []) es
split_passed base s None es = refl
split_passed base s (Some d) es = ap (λ p. fold passed p es) (next_child s base)

walked_above : (base : Path) (above : List OpenSplit) → fold passed base (entries_above above) ≡ base ++ steps_above above
walked_above base [] = sym (append-nil base)
walked_above base (o ∷ os) = split_passed base o.split o.first (entries_above os) ∙ walked_above (base ++ step_of o ∷ []) os ∙ append_assoc base (step_of o ∷ []) (steps_above os)

ahead_below : (t : Node) (path : Path) → leaves_ahead path (flat t) ≡ leaves_below path t
ahead_below t path = ap (leaves_ahead path) (sym (append-nil (flat t))) ∙ ahead-flat t path [] ∙ append-nil (leaves_below path t)

count_work : (above : List OpenSplit) (d : Duals) → count_by is_end (entries_above above ++ ends_of (Some d)) ≡ count_by is_end (entries_above above) + 1
count_work above d = omega (arith, counted-append (entries_above above) (End d ∷ []), counted_end d [])

module _ (front rest : List Entry) (d : Duals) where
  here_found : slice_get (front ++ End d ∷ rest) (length front) ≡ Some (End d)
  here_found = get_right front (End d ∷ rest) (length front) 0 (omega arith)

  -- another tree in the place of one leaf
  pub put_flat : (t part : Node) → front ++ End d ∷ rest ≡ flat t → front ++ (flat part ++ rest) ≡ flat (replaced t (count_by is_end front) part)
  put_flat t part whole =
      let here : slice_get (flat t) (length front) ≡ Some (End d) = ap (λ es. slice_get es (length front)) (sym whole) ∙ here_found in
      let counted : before (flat t) (length front) ≡ count_by is_end front = ap (λ es. before es (length front)) (sym whole) ∙ ap (count_by is_end) (take_front front (End d ∷ rest)) in
      sym (put_right front (End d ∷ rest) (flat part) (length front) 0 (omega arith))
      ∙ ap (λ es. put es (length front) (flat part)) whole
      ∙ sym (flat_replaced part t (length front) (count_by is_end front) d here counted)

  found_below : (t : Node) (base : Path) → front ++ End d ∷ rest ≡ flat t → slice_get (leaves_below base t) (count_by is_end front) ≡ Some (fold passed base front, d)
  found_below t base whole =
      ap (λ ls. slice_get ls (count_by is_end front)) (sym (ahead_below t base) ∙ ap (leaves_ahead base) (sym whole))
      ∙ ap (λ es. slice_get (leaves_ahead base (front ++ End d ∷ rest)) (count_by is_end es)) (sym (take_front front (End d ∷ rest)))
      ∙ leaf_found base (front ++ End d ∷ rest) (length front) d here_found
      ∙ ap (λ es. Some (fold passed base es, d)) (take_front front (End d ∷ rest))

leads_from : (path base : Path) (above : List OpenSplit) → path ≡ base ++ steps_above above → path ≡ base_of path above ++ steps_above above
leads_from path base above leads = leads ∙ ap (λ b. b ++ steps_above above) (sym (base_is path base above leads))

-- nodes that are those of a tree are those of the tree that they give
pub whole_from : (nodes : List Entry) (t : Node) → nodes ≡ flat t → nodes ≡ flat (tree_of nodes)
whole_from nodes t is = is ∙ ap flat (sym (ap tree_of is ∙ tree_of-flat t))

module _ {S C : List ℕ} {path : Path} {above : List OpenSplit} {done : List Entry} {room n : ℕ} (d : Duals) (kept : IsKept S C path above (Some d) done room n) where
  at_work : leaf_at_work (grown_seen S C path above (Some d) done) ≡ Some (path, d)
  at_work =
      let k : count_by is_end (entries_above above ++ ends_of (Some d)) - 1 ≡ count_by is_end (entries_above above) = omega (arith, count_work above d) in
      let t : Node = tree_of (nodes_kept above (Some d) done) in
      ap (slice_get (leaves_below (base_of path above) t)) k
      ∙ found_below (entries_above above) (reverse done) d t (base_of path above) kept.whole
      ∙ ap (λ p. Some (p, d)) (walked_above (base_of path above) above ∙ sym kept.leads)

  -- another tree in the place of the leaf at work, whose last leaf is at work then
  module _ (part : Node) (path' : Path) (above' : List OpenSplit) (d' : Duals) (nodes : nodes_kept above' (Some d') done ≡ entries_above above ++ (flat part ++ reverse done)) (leads : path' ≡ base_of path above ++ steps_above above') where
    root_is : nodes_kept above' (Some d') done ≡ flat (replaced (tree_of (nodes_kept above (Some d) done)) (count_by is_end (entries_above above)) part)
    root_is = nodes ∙ put_flat (entries_above above) (reverse done) d (tree_of (nodes_kept above (Some d) done)) part kept.whole

    worked_seen : (left : ℕ) → count_by is_end (entries_above above' ++ ends_of (Some d')) ≡ left → grown_seen S C path' above' (Some d') done ≡ (let g : Growing = worked (grown_seen S C path above (Some d) done) part in record g { left = left })
    worked_seen left count =
        let k : count_by is_end (entries_above above) ≡ count_by is_end (entries_above above ++ ends_of (Some d)) - 1 = omega (arith, count_work above d) in
        let t : Node = tree_of (nodes_kept above (Some d) done) in
        same_growing S C _ _ _ _ _ _
        (ap tree_of root_is ∙ tree_of-flat (replaced t (count_by is_end (entries_above above)) part) ∙ ap (λ j. replaced t j part) k)
        (base_is path' (base_of path above) above' leads)
        count

    worked_kept : (room' n' : ℕ) → All (IsSound S C) (flat part) → n' < 2 ^ 32 → n' + 1 ≡ n + length (flat part) → n' ≤ room' → IsKept S C path' above' (Some d') done room' n'
    worked_kept room' n' sound few counted fits =
        let parts = all_parts (IsSound S C) (entries_above above) (End d ∷ reverse done) kept.sound in
        let rest = all_parts (IsSound S C) (End d ∷ []) (reverse done) parts.1 in
        let same : n' ≡ length (nodes_kept above' (Some d') done) = omega (arith, ap length nodes, length-append (entries_above above) (flat part ++ reverse done), length-append (flat part) (reverse done), kept.counted, length-append (entries_above above) (End d ∷ reverse done)) in
        record {
          whole = whole_from _ _ root_is;
          sound = All-same (IsSound S C) _ _ nodes (All-append (IsSound S C) (entries_above above) (flat part ++ reverse done) parts.0 (All-append (IsSound S C) (flat part) (reverse done) sound rest.1));
          few = omega arith;
          leads = leads_from path' (base_of path above) above' leads;
          at_end = λ none. absurd (cc none);
          fits = omega arith;
          counted = same;
        }

-- one leaf
module _ (S C : List ℕ) (path : Path) (above : List OpenSplit) (d : Duals) (done : List Entry) (none_above : above ≡ []) (none_done : done ≡ []) where
  one_node : nodes_kept above (Some d) done ≡ End d ∷ []
  one_node = ap (λ os. nodes_kept os (Some d) done) none_above ∙ ap (λ es. nodes_kept [] (Some d) es) none_done

  leads_down : path ≡ path ++ steps_above above
  leads_down = sym (ap (λ os. path ++ steps_above os) none_above ∙ append-nil path)

  pub begun_kept : (room : ℕ) → 1 ≤ room → IsSound S C (End d) → IsKept S C path above (Some d) done room 1
  begun_kept room fits sound = record {
    whole = whole_from _ (Leaf d) one_node;
    sound = All-same (IsSound S C) _ (End d ∷ []) one_node (All-cons (IsSound S C) (End d) [] sound (All-nil (IsSound S C)));
    few = omega (arith, ap length one_node);
    leads = leads_from path path above leads_down;
    at_end = λ none. absurd (cc none);
    fits = omega (arith, ap length one_node);
    counted = sym (ap length one_node);
  }

  pub begun_seen : grown_seen S C path above (Some d) done ≡ (let g : Growing = record { tree = record { sites = S; customers = C; root = Leaf d }; base = path; left = 1 } in g)
  begun_seen = same_growing S C _ (Leaf d) _ path _ 1 (ap tree_of one_node ∙ tree_of-flat (Leaf d)) (base_is path path above leads_down) (ap (λ os. count_by is_end (entries_above os ++ End d ∷ [])) none_above ∙ counted_end d [])

-- while a leaf is left, one is at work
work_left : (above : List OpenSplit) (work : Option Duals) → (work ≡ None → above ≡ []) → 0 < count_by is_end (entries_above above ++ ends_of work) → (d : Duals) × (work ≡ Some d)
work_left above None at_end left = absurd (let none : count_by is_end (entries_above above ++ []) ≡ 0 = ap (λ os. count_by is_end (entries_above os ++ [])) (at_end refl) in omega arith)
work_left above (Some d) at_end left = (d, refl)

-- and where none is left, none is
nothing_left : (above : List OpenSplit) (work : Option Duals) → count_by is_end (entries_above above ++ ends_of work) ≡ 0 → work ≡ None
nothing_left above None none = refl
nothing_left above (Some d) none = absurd (omega (arith, count_work above d))

module _ {S C : List ℕ} {path : Path} {above : List OpenSplit} {work : Option Duals} {done : List Entry} {room n : ℕ} (kept : IsKept S C path above work done room n) (g : Growing) (view_is : grown_seen S C path above work done ≡ g) where
  pub kept_nodes : n ≡ nodes_of g.tree
  kept_nodes = kept.counted ∙ ap length kept.whole ∙ length-flat (tree_of (nodes_kept above work done)) ∙ ap (λ x. nodes_of x.tree) view_is

  sound_here : (e : Entry) → IsSound g.tree.sites g.tree.customers e → IsSound S C e
  sound_here e h = subst (λ x. IsSound x.tree.sites x.tree.customers e) (sym view_is) h

  -- a leaf is left
  module _ (left : 0 < g.left) where
    pub worked_on : (d : Duals) × (work ≡ Some d)
    worked_on = work_left above work kept.at_end (omega (arith, ap (λ x. x.left) view_is))

    kept_on : IsKept S C path above (Some worked_on.0) done room n
    kept_on = subst (λ w. IsKept S C path above w done room n) worked_on.1 kept

    seen_on : grown_seen S C path above (Some worked_on.0) done ≡ g
    seen_on = ap (λ w. grown_seen S C path above w done) (sym worked_on.1) ∙ view_is

    pub leaf_on : leaf_at_work g ≡ Some (path, worked_on.0)
    leaf_on = ap leaf_at_work (sym seen_on) ∙ at_work worked_on.0 kept_on

    -- with other duals
    module _ (d : Duals) (lists : HasLists (length g.tree.sites) (length g.tree.customers) d) where
      pub set_kept : IsKept S C path above (Some d) done room n
      set_kept =
          worked_kept worked_on.0 kept_on (Leaf d) path above d refl kept.leads room n (All-cons (IsSound S C) (End d) [] (sound_here (End d) lists) (All-nil (IsSound S C)))
          (omega (arith, kept.few, kept.counted)) (omega arith) (omega (arith, kept.fits, kept.counted))

      pub set_seen : grown_seen S C path above (Some d) done ≡ worked g (Leaf d)
      set_seen =
          worked_seen worked_on.0 kept_on (Leaf d) path above d refl kept.leads _ (omega (arith, count_work above d, count_work above worked_on.0))
          ∙ ap (λ x. worked x (Leaf d)) seen_on

    -- split in two
    module _ (s : Split) (first second : Duals) (down : Path) (more : List OpenSplit) (down_is : down ≡ path ++ second_step s ∷ []) (more_is : more ≡ above ++ open_of s (Some first) ∷ []) where
      abbrev part : Node
      part = Fork s (Leaf first) (Leaf second)

      split_nodes : nodes_kept more (Some second) done ≡ entries_above above ++ (flat part ++ reverse done)
      split_nodes =
          ap (λ es. es ++ (End second ∷ reverse done)) (entries_are more above s (Some first) more_is)
          ∙ append_assoc (entries_above above) (Branch s ∷ End first ∷ []) (End second ∷ reverse done)

      split_leads : down ≡ base_of path above ++ steps_above more
      split_leads =
          down_is ∙ ap (λ p. p ++ second_step s ∷ []) kept.leads
          ∙ append_assoc (base_of path above) (steps_above above) (second_step s ∷ [])
          ∙ ap (λ p. base_of path above ++ p) (sym (steps_are more above s (Some first) more_is))

      pub split_kept : (room' : ℕ) (done' : List Entry) → done' ≡ done → IsSplitAmong g.tree.sites g.tree.customers s → HasLists (length g.tree.sites) (length g.tree.customers) first → HasLists (length g.tree.sites) (length g.tree.customers) second → nodes_of g.tree + 2 < 2 ^ 32 → n + 2 ≤ room' → IsKept S C down more (Some second) done' room' (n + 2)
      split_kept room' done' same split_sound first_sound second_sound few fits =
          let sound : All (IsSound S C) (Branch s ∷ End first ∷ End second ∷ []) = All-cons (IsSound S C) (Branch s) (End first ∷ End second ∷ []) (sound_here (Branch s) split_sound)
          (All-cons (IsSound S C) (End first) (End second ∷ []) (sound_here (End first) first_sound) (All-cons (IsSound S C) (End second) [] (sound_here (End second) second_sound) (All-nil (IsSound S C)))) in
          subst (λ es. IsKept S C down more (Some second) es room' (n + 2)) (sym same)
          (worked_kept worked_on.0 kept_on part down more second split_nodes split_leads room' (n + 2)
          sound (omega (arith, kept_nodes)) (omega arith) fits)

      pub split_seen : (done' : List Entry) → done' ≡ done → grown_seen S C down more (Some second) done' ≡ split_in_two g s first second
      split_seen done' same =
          ap (grown_seen S C down more (Some second)) same
          ∙ worked_seen worked_on.0 kept_on part down more second split_nodes split_leads (count_by is_end (entries_above above ++ ends_of (Some worked_on.0)) + 1)
          (omega (arith, count_work more second, count_work above worked_on.0, ap (count_by is_end) (entries_are more above s (Some first) more_is), counted-append (entries_above above) (Branch s ∷ End first ∷ []), counted_branch s (End first ∷ []), counted_end first []))
          ∙ ap (λ x. split_in_two x s first second) seen_on

  -- once every leaf is done, what is done is all
  module _ (none : g.left ≡ 0) where
    no_work : work ≡ None
    no_work = nothing_left above work (omega (arith, none, ap (λ x. x.left) view_is))

    all_done : nodes_kept above work done ≡ reverse done
    all_done = ap (λ os. nodes_kept os work done) (kept.at_end no_work) ∙ ap (λ w. ends_of w ++ reverse done) no_work

    pub done_nodes : reverse done ≡ flat g.tree.root
    done_nodes = sym all_done ∙ kept.whole ∙ ap (λ x. flat x.tree.root) view_is

    pub done_sound : All (IsSound g.tree.sites g.tree.customers) (reverse done)
    done_sound = subst (λ x. All (IsSound x.tree.sites x.tree.customers) (reverse done)) view_is (subst (All (IsSound S C)) all_done kept.sound)
