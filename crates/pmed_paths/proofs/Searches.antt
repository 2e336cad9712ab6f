-- A search for cheapest walks goes on, and what it has found at its end.
use Rattle.std.proofs.Common.{◌≡◌, ℕ, zero, suc, ◌+◌, ◌-◌, ◌*◌, ◌<◌, ◌≤◌, min, List, [], ◌∷◌, map, length, Contains, Option, None, Some, unwrap_or, ◌⊎◌, inl, inr, IsPermutation, slice_index, slice_index_or, refl, sym, ap, subst, ◌∙◌, arith, cond, Bool, true, false, ◌==◌, replicate, ◌++◌, take, drop, Result, Ok, Err, IfOk}
use Rattle.std.specs.List.{range_with_len}
use Rattle.std.proofs.lemmas.Bool.{cases_eq, cases_lt, eqb-true, eqb-false}
use Rattle.std.proofs.lemmas.List.Sorted.{Contains-permutation}
use Rattle.std.proofs.lemmas.List.Elements.{All-contains}
use Rattle.std.proofs.lemmas.List.{length-replicate, get_or-replicate}
use Rattle.std.proofs.lemmas.List.FromFn.{length-map-range_with_len, get_or-map-range_with_len}
use Rattle.pmed_paths.specs.declared.arcs.Arc.{Arc}
use Rattle.pmed_paths.specs.declared.labels.TheConstants.{NO_WALK}
use Rattle.pmed_paths.specs.Network.{Network, IsNetwork, edge}
use Rattle.pmed_paths.specs.Walks.{IsWalk, end_of, walk_cost, HasWalk, IsLeastWalk, least_cost, least_costs}
use Rattle.pmed_paths.specs.Arcs.{arcs_from, arc, IsArc, AreArcs, AreInside}
use Rattle.pmed_paths.specs.Labels.{cost_in, through, IsRelaxed, IsVia, IsOffered, IsGone, IsSearch}
use Rattle.pmed_paths.proofs.Costs.{IsAtMost}
use Rattle.pmed_paths.proofs.Edges.{there, what_is_there, first_end, walk-last}
use Rattle.pmed_paths.proofs.Cheapest.{no_dearer, has_walk, least_walk}
use Rattle.pmed_paths.proofs.Offers.{Contains-cases, better-offered, offered-at_most, offered-from}

abbrev Queue : Type 0
Queue = List (ℕ × ℕ)

first-part : (p q : ℕ × ℕ) → p ≡ q → p.0 ≡ q.0
first-part p q e = ap (λ (r : ℕ × ℕ). r.0) e

second-part : (p q : ℕ × ℕ) → p ≡ q → p.1 ≡ q.1
second-part p q e = ap (λ (r : ℕ × ℕ). r.1) e

-- what is left of the queue still has what isn't the one that was taken
still_waits : (H H' : Queue) (cost v label u : ℕ) → IsPermutation H ((cost, v) ∷ H') → Contains H (label, u) → ((cost ≡ label) → (v ≡ u) → ⊥) → Contains H' (label, u)
still_waits H H' cost v label u same there apart =
    elim (Contains-cases (cost, v) (label, u) H' (Contains-permutation H ((cost, v) ∷ H') (label, u) same there)) [
      | inl is ↦ absurd (apart (first-part (cost, v) (label, u) is) (second-part (cost, v) (label, u) is))
      | inr later ↦ later
    ]

-- a label that has fallen since is passed over
pub search-passed : (N : Network) (s : ℕ) (rows : List (List Arc)) (L : List ℕ) (H H' : Queue) (cost v : ℕ) → IsPermutation H ((cost, v) ∷ H') → (cost ≡ slice_index L v → ⊥) → IsSearch N s rows L H → IsSearch N s rows L H'
search-passed N s rows L H H' cost v same stale search = record {
  reached = search.reached;
  begun = search.begun;
  settled = λ u below. elim (search.settled u below) [
    | inl there ↦ inl (still_waits H H' cost v (slice_index L u) u same there (λ is at. stale (is ∙ ap (λ x. slice_index L x) (sym at))))
    | inr relaxed ↦ inr relaxed
  ];
}

-- what comes over an arc is the cost of a walk, or none
via-reached : (N : Network) (s v u label next : ℕ) (rows : List (List Arc)) → AreArcs N rows → (label ≡ NO_WALK) ⊎ HasWalk N (s + 1) (v + 1) label → IsVia (arcs_from rows v) label u next → (next ≡ NO_WALK) ⊎ HasWalk N (s + 1) (u + 1) next
via-reached N s v u label next rows are reached via =
    let it : IsArc N v via.over = All-contains (IsArc N v) (arcs_from rows v) via.over (are.sound v) via.known in
    elim reached [
      | inl none ↦ inl (omega (arith, via.value, none))
      | inr walk ↦ elim (cases_lt (label + via.over.cost) NO_WALK) [
        | inl fits ↦
            let sum : label + via.over.cost ≡ next = omega (arith, via.value, fits) in
            let leads : edge N (v + 1) (u + 1) ≡ Some via.over.cost = subst (λ x. edge N (v + 1) (x + 1) ≡ Some via.over.cost) via.leads it.is_edge in
            inr (subst (HasWalk N (s + 1) (u + 1)) sum (walk-last N (s + 1) (v + 1) (u + 1) label via.over.cost walk leads))
        | inr far ↦ inl (omega (arith, via.value, far))
      ]
    ]

lower-relaxed : (row : List Arc) (k label : ℕ) (L L' : List ℕ) → ((u : ℕ) → slice_index L' u ≤ slice_index L u) → IsRelaxed row k label L → IsRelaxed row k label L'
lower-relaxed row k label L L' lower relaxed j d below within = omega (arith, lower (slice_index_or row j d).to, relaxed j d below within)

-- the search goes on from the vertex that was taken
pub search-gone : (N : Network) (s : ℕ) (rows : List (List Arc)) (L : List ℕ) (H H' : Queue) (cost v : ℕ) (L' : List ℕ) (H'' : Queue) → AreArcs N rows → v < length L → IsPermutation H ((cost, v) ∷ H') → cost ≡ slice_index L v
    → IsGone (arcs_from rows v) cost (length (arcs_from rows v)) L H' L' H'' → IsSearch N s rows L H → IsSearch N s rows L' H''
search-gone N s rows L H H' cost v L' H'' are inside same is gone search = record {
  reached = λ u below. elim (gone.from u) [
    | inl kept ↦ subst (λ x. (x ≡ NO_WALK) ⊎ HasWalk N (s + 1) (u + 1) x) (sym kept) (search.reached u (omega (arith, below, gone.better.same_length)))
    | inr via ↦ via-reached N s v u cost (slice_index L' u) rows are (subst (λ x. (x ≡ NO_WALK) ⊎ HasWalk N (s + 1) (v + 1) x) (sym is) (search.reached v inside)) via
  ];
  begun = omega (arith, search.begun, gone.better.lower s);
  settled = λ u below. elim (gone.better.waits u) [
    | inr there ↦ inl there
    | inl kept ↦ elim (cases_eq v u) [
      | inl here ↦ inr (subst (λ x. IsRelaxed (arcs_from rows u) (length (arcs_from rows u)) x L') (is ∙ ap (λ x. slice_index L x) here ∙ sym kept) (subst (λ x. IsRelaxed (arcs_from rows x) (length (arcs_from rows x)) cost L') here gone.relaxed))
      | inr other ↦ elim (search.settled u (omega (arith, below, gone.better.same_length))) [
        | inl there ↦ inl (subst (λ x. Contains H'' (x, u)) (sym kept) (gone.better.kept (slice_index L u) u (still_waits H H' cost v (slice_index L u) u same there (λ _ at. other at))))
        | inr relaxed ↦ inr (subst (λ x. IsRelaxed (arcs_from rows u) (length (arcs_from rows u)) x L') (sym kept) (lower-relaxed (arcs_from rows u) (length (arcs_from rows u)) (slice_index L u) L L' gone.better.lower relaxed))
      ]
    ]
  ];
}

-- no label is above what a walk over an edge gives, once nothing waits
over_edge : (N : Network) → IsNetwork N → (s : ℕ) (rows : List (List Arc)) (L : List ℕ) → AreArcs N rows → length L ≡ length rows → IsSearch N s rows L [] → (a b cost : ℕ) → edge N a b ≡ Some cost → slice_index L (b - 1) ≤ through (slice_index L (a - 1)) cost
over_edge N net s rows L are same search a b cost e =
    let from = first_end N net a b (there (edge N a b) cost e) in
    let found = are.whole a b cost e in
    elim (search.settled (a - 1) (omega (arith, from.0, from.1, same, are.count))) [
      | inl waits ↦ absurd (omega (arith, waits.1))
      | inr relaxed ↦
          let it : slice_index_or (arcs_from rows (a - 1)) found.0 (arc (b - 1) cost) ≡ arc (b - 1) cost = found.2 in
          subst (λ x. slice_index L x.to ≤ through (slice_index L (a - 1)) x.cost) it (relaxed found.0 (arc (b - 1) cost) found.1 found.1)
    ]

over_walk : (N : Network) → IsNetwork N → (s : ℕ) (rows : List (List Arc)) (L : List ℕ) → AreArcs N rows → length L ≡ length rows → IsSearch N s rows L [] → (a : ℕ) (walk : List ℕ) → IsWalk N a walk → min (slice_index L (end_of a walk - 1)) NO_WALK ≤ slice_index L (a - 1) + walk_cost N a walk
over_walk N net s rows L are same search a [] goes = omega arith
over_walk N net s rows L are same search a (b ∷ walk) goes =
    let step = over_edge N net s rows L are same search a b (unwrap_or (edge N a b) 0) (what_is_there (edge N a b) goes.0) in
    let rest = over_walk N net s rows L are same search b walk goes.1 in
    omega (arith, step, rest)

cost_in-some : (label cost : ℕ) → label ≡ cost → cost < NO_WALK → cost_in label ≡ Some cost
cost_in-some label cost same below = by (label == NO_WALK) refl
  where
    by : (b : Bool) → (label == NO_WALK) ≡ b → cond b None (Some label) ≡ Some cost
    by true is = let far : label ≡ NO_WALK = eqb-true label NO_WALK is in absurd (omega (arith, far, same, below))
    by false is = ap Some same

cost_in-none : (label : ℕ) → label ≡ NO_WALK → cost_in label ≡ None
cost_in-none label far = by (label == NO_WALK) refl
  where
    by : (b : Bool) → (label == NO_WALK) ≡ b → cond b None (Some label) ≡ None
    by true is = refl
    by false is = absurd (eqb-false label NO_WALK is far)

-- a cheapest walk costs less than a label can be
far_off : (n cost : ℕ) → n ≤ 3000 → cost ≤ n * 999999999999999 → cost < NO_WALK
far_off n cost few small = omega (arith, few, small)

found : (N : Network) → IsNetwork N → (s u : ℕ) (rows : List (List Arc)) (L : List ℕ) → AreArcs N rows → length L ≡ length rows → IsSearch N s rows L [] → (cost : ℕ) → least_cost N (s + 1) (u + 1) ≡ Some cost → slice_index L u ≤ cost
found N net s u rows L are same search cost e =
    let cheapest = has_walk N net (s + 1) (u + 1) cost e in
    let w = cheapest.0 in
    let below : cost < NO_WALK = far_off N.vertices cost net.counts.few_vertices cheapest.1 in
    let bound = over_walk N net s rows L are same search (s + 1) w.walk w.goes in
    let start : s + 1 - 1 ≡ s = omega arith in
    let end : end_of (s + 1) w.walk - 1 ≡ u = omega (arith, w.arrives) in
    let from : slice_index L (s + 1 - 1) ≡ slice_index L s = ap (λ x. slice_index L x) start in
    let to : slice_index L (end_of (s + 1) w.walk - 1) ≡ slice_index L u = ap (λ x. slice_index L x) end in
    omega (arith, bound, from, to, search.begun, w.costs, below)

-- at the end of a search each label is the least cost of a walk
label_is : (N : Network) → IsNetwork N → (s u : ℕ) (rows : List (List Arc)) (L : List ℕ) → AreArcs N rows → length L ≡ length rows → IsSearch N s rows L [] → u < length L → (o : Option ℕ) → least_cost N (s + 1) (u + 1) ≡ o → cost_in (slice_index L u) ≡ o
label_is N net s u rows L are same search inside None e =
    elim (search.reached u inside) [
      | inl none ↦ cost_in-none (slice_index L u) none
      | inr walk ↦ absurd (subst (λ x. IsAtMost x (slice_index L u)) e (no_dearer N net (s + 1) (u + 1) (slice_index L u) walk))
    ]
label_is N net s u rows L are same search inside (Some cost) e =
    let at_most = found N net s u rows L are same search cost e in
    let below : cost < NO_WALK = far_off N.vertices cost net.counts.few_vertices (has_walk N net (s + 1) (u + 1) cost e).1 in
    elim (search.reached u inside) [
      | inl none ↦ absurd (omega (arith, none, at_most, below))
      | inr walk ↦
          let least : cost ≤ slice_index L u = subst (λ x. IsAtMost x (slice_index L u)) e (no_dearer N net (s + 1) (u + 1) (slice_index L u) walk) in
          cost_in-some (slice_index L u) cost (omega (arith, least, at_most)) below
    ]

by_place : (f : ℕ → Option ℕ) (L : List ℕ) (start : ℕ) → ((u : ℕ) → u < length L → cost_in (slice_index L u) ≡ f (start + u)) → map cost_in L ≡ map f (range_with_len start (length L))
by_place f [] start each = refl
by_place f (x ∷ L) start each =
    let here : start + 0 ≡ start = omega arith in
    let first : cost_in x ≡ f start = each 0 (omega arith) ∙ ap f here in
    let rest : map cost_in L ≡ map f (range_with_len (start + 1) (length L)) = by_place f L (start + 1) (λ u below. each (suc u) (omega (arith, below)) ∙ ap f (later start u)) in
    λ i. first i ∷ rest i
  where
    later : (a u : ℕ) → a + suc u ≡ a + 1 + u
    later a u = omega arith

-- at the end of a search the labels are the least costs
pub labels-least : (N : Network) → IsNetwork N → (s : ℕ) (rows : List (List Arc)) (L : List ℕ) → AreArcs N rows → length L ≡ length rows → IsSearch N s rows L [] → map cost_in L ≡ least_costs N (s + 1)
labels-least N net s rows L are same search =
    let each : (u : ℕ) → u < length L → cost_in (slice_index L u) ≡ least_cost N (s + 1) (1 + u) = λ u inside. label_is N net s u rows L are same search inside (least_cost N (s + 1) (u + 1)) refl ∙ ap (λ x. least_cost N (s + 1) x) (turned u) in
    by_place (λ b. least_cost N (s + 1) b) L 1 each ∙ ap (λ n. map (λ b. least_cost N (s + 1) b) (range_with_len 1 n)) (same ∙ are.count)
  where
    turned : (u : ℕ) → u + 1 ≡ 1 + u
    turned u = omega arith

-- a search begins
no_label : (n u : ℕ) → slice_index (replicate n NO_WALK) u ≤ NO_WALK
no_label zero u = omega arith
no_label (suc n) zero = omega arith
no_label (suc n) (suc u) = no_label n u

pub search-begins : (N : Network) (s n : ℕ) (rows : List (List Arc)) (L : List ℕ) (H : Queue) → s < n → IsOffered (replicate n NO_WALK) [] s 0 L H → IsSearch N s rows L H
search-begins N s n rows L H inside offered =
    let before = replicate n NO_WALK in
    let within : s < length before = omega (arith, inside, length-replicate n NO_WALK) in
    let better = better-offered before [] s 0 L H within offered in
    let small : (u : ℕ) → slice_index L u ≤ NO_WALK = λ u. omega (arith, better.lower u, no_label n u) in
    let none : (u : ℕ) → u < length L → slice_index before u ≡ NO_WALK = λ u below. get_or-replicate n u NO_WALK 0 (omega (arith, below, better.same_length, length-replicate n NO_WALK)) in
    record {
      reached = λ u below. elim (offered-from before [] s 0 L H within offered u) [
        | inl same ↦ inl (same ∙ none u below)
        | inr taken ↦ inr (record { walk = []; goes = tt; arrives = omega (arith, taken.0); costs = sym taken.1 })
      ];
      begun = offered-at_most before [] s 0 L H within offered;
      settled = λ u below. elim (better.waits u) [
        | inr there ↦ inl there
        | inl same ↦ inr (λ j d _ _. omega (arith, same, none u below, small (slice_index_or (arcs_from rows u) j d).to))
      ];
    }

-- arcs of a network lead to the places of its vertices
pub arcs-inside : (N : Network) (rows : List (List Arc)) → AreArcs N rows → AreInside rows
arcs-inside N rows are u below k d within = let a = are.sound u k d within in omega (arith, a.inside, are.count)

-- numbers that were written over as many
pub written : {X : Type 0} (new old : List X) (n : ℕ) → length new ≡ n → length old ≡ n → take n (new ++ drop (length new) old) ≡ new
written [] [] zero e f = refl
written [] [] (suc n) e f = absurd (omega (arith, e))
written [] (y ∷ old) zero e f = refl
written [] (y ∷ old) (suc n) e f = absurd (omega (arith, e))
written (x ∷ new) old zero e f = absurd (omega (arith, e))
written (x ∷ new) [] (suc n) e f = absurd (omega (arith, f))
written {X} (x ∷ new) (y ∷ old) (suc n) e f = ap (λ (xs : List X). x ∷ xs) (written new old n (omega (arith, e)) (omega (arith, f)))

pub length-least_costs : (N : Network) (a : ℕ) → length (least_costs N a) ≡ N.vertices
length-least_costs N a = length-map-range_with_len (λ b. least_cost N a b) 1 N.vertices

-- distances from a vertex have an entry for each vertex, which is the cost of a cheapest walk
pub costs-length : {E : Type 0} (N : Network) (a b : ℕ) (r : Result (List (Option ℕ)) E) → a ≡ b → IfOk r (λ d. d ≡ least_costs N a) → IfOk r (λ d. length d ≡ N.vertices)
costs-length N a b (Ok d) same is = ap length is ∙ length-least_costs N a
costs-length N a b (Err e) same is = tt

pub costs-walks : {E : Type 0} (N : Network) → IsNetwork N → (a b : ℕ) (r : Result (List (Option ℕ)) E) → a ≡ b → IfOk r (λ d. d ≡ least_costs N a) → IfOk r (λ d. (v : ℕ) → 1 ≤ v → v ≤ N.vertices → IsLeastWalk N b v (slice_index_or d (v - 1) None))
costs-walks N net a b (Err e) same is = tt
costs-walks N net a b (Ok d) same is = λ v first last.
    let at : slice_index_or (least_costs N b) (v - 1) None ≡ least_cost N b v = get_or-map-range_with_len (λ u. least_cost N b u) 1 N.vertices (v - 1) v None (omega (arith, first, last)) (omega (arith, first)) in
    let here : slice_index_or d (v - 1) None ≡ least_cost N b v = ap (λ xs. slice_index_or xs (v - 1) None) (is ∙ ap (λ x. least_costs N x) same) ∙ at in
    subst (IsLeastWalk N b v) (sym here) (least_walk N b v net)
