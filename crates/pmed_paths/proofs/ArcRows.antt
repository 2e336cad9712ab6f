-- Arcs that are added edge by edge.
use Rattle.std.proofs.Common.{◌≡◌, ◌≢◌, ℕ, zero, suc, ◌+◌, ◌-◌, ◌<◌, ◌≤◌, min, max, List, [], ◌∷◌, ◌++◌, length, All, Contains, Some, ◌⊎◌, inl, inr, replicate, refl, sym, ap, subst, ◌∙◌, arith, BTreeMap}
use Rattle.std.proofs.lemmas.Bool.{cases_eq, cases_lt}
use Rattle.std.proofs.lemmas.List.{length-set, length-replicate, get_or-set_same, get_or-set_other}
use Rattle.std.proofs.lemmas.List.Elements.{All-nil, All-push, All-head, All-tail, Contains-append_left, Contains-push}
use Rattle.std.specs.BTreeMap as tree
use Rattle.std.specs.FinMap.{get}
use Rattle.location_terms.specs.Instance.{pair_cmp}
use Rattle.pmed_paths.specs.declared.arcs.Arc.{Arc}
use Rattle.pmed_paths.specs.Network.{Network, IsNetwork, edge}
use Rattle.pmed_paths.specs.Arcs.{arcs_from, arc, IsArc, AreArcs, with_arc}
use Rattle.pmed_paths.specs.Stored.{edges_in}
use Rattle.pmed_paths.proofs.Offers.{Contains-cases}
use Rattle.pmed_paths.proofs.Edges.{there}
use Rattle.pmed_paths.proofs.Trees.{entry-of, entries-found}

abbrev Entry : Type 0
Entry = (ℕ × ℕ) × ℕ

length-with_arc : (rows : List (List Arc)) (u : ℕ) (a : Arc) → length (with_arc rows u a) ≡ length rows
length-with_arc rows u a = length-set rows u (arcs_from rows u ++ a ∷ [])

with_arc-same : (rows : List (List Arc)) (u : ℕ) (a : Arc) → u < length rows → arcs_from (with_arc rows u a) u ≡ arcs_from rows u ++ a ∷ []
with_arc-same rows u a inside = get_or-set_same rows u (arcs_from rows u ++ a ∷ []) [] inside

with_arc-other : (rows : List (List Arc)) (u v : ℕ) (a : Arc) → v ≢ u → arcs_from (with_arc rows u a) v ≡ arcs_from rows v
with_arc-other rows u v a other = get_or-set_other rows u v (arcs_from rows u ++ a ∷ []) [] other

-- what was there stays
kept : (rows : List (List Arc)) (u v : ℕ) (a x : Arc) → u < length rows → Contains (arcs_from rows v) x → Contains (arcs_from (with_arc rows u a) v) x
kept rows u v a x inside there =
    elim (cases_eq v u) [
      | inl same ↦
          let here : Contains (arcs_from rows u) x = subst (λ w. Contains (arcs_from rows w) x) same there in
          subst (λ w. Contains (arcs_from (with_arc rows u a) w) x) (sym same) (subst (λ row. Contains row x) (sym (with_arc-same rows u a inside)) (Contains-append_left (arcs_from rows u) (a ∷ []) x here))
      | inr other ↦ subst (λ row. Contains row x) (sym (with_arc-other rows u v a other)) there
    ]

-- what is added is there
added : (rows : List (List Arc)) (u : ℕ) (a : Arc) → u < length rows → Contains (arcs_from (with_arc rows u a) u) a
added rows u a inside = subst (λ row. Contains row a) (sym (with_arc-same rows u a inside)) (Contains-push (arcs_from rows u) a)

-- arcs of the network stay such
sound-more : (N : Network) (rows : List (List Arc)) (u : ℕ) (a : Arc) → u < length rows → ((v : ℕ) → All (IsArc N v) (arcs_from rows v)) → IsArc N u a → (v : ℕ) → All (IsArc N v) (arcs_from (with_arc rows u a) v)
sound-more N rows u a inside sound is v =
    elim (cases_eq v u) [
      | inl same ↦ subst (λ w. All (IsArc N w) (arcs_from (with_arc rows u a) w)) (sym same) (subst (All (IsArc N u)) (sym (with_arc-same rows u a inside)) (All-push (IsArc N u) (arcs_from rows u) a (sound u) is))
      | inr other ↦ subst (All (IsArc N v)) (sym (with_arc-other rows u v a other)) (sound v)
    ]

-- both arcs of an edge are there
pub record IsAdded (rows : List (List Arc)) (e : (ℕ × ℕ) × ℕ) : Type 0 where
  pub there : Contains (arcs_from rows (e.0.0 - 1)) (arc (e.0.1 - 1) e.1)
  pub back : Contains (arcs_from rows (e.0.1 - 1)) (arc (e.0.0 - 1) e.1)

-- the arcs of all edges but those that are left
pub record AreAdded (N : Network) (left : List ((ℕ × ℕ) × ℕ)) (rows : List (List Arc)) : Type 0 where
  pub count : length rows ≡ N.vertices
  pub sound : (u : ℕ) → All (IsArc N u) (arcs_from rows u)
  pub some : (q : ℕ × ℕ) (cost : ℕ) → get N.edges q ≡ Some cost → Contains left (q, cost) ⊎ IsAdded rows (q, cost)
  pub found : All (λ e. get N.edges e.0 ≡ Some e.1) left

-- the rows after both arcs of an edge
abbrev pub both : List (List Arc) → (ℕ × ℕ) × ℕ → List (List Arc)
both rows e = with_arc (with_arc rows (e.0.0 - 1) (arc (e.0.1 - 1) e.1)) (e.0.1 - 1) (arc (e.0.0 - 1) e.1)

record AreEnds (N : Network) (a b : ℕ) : Type 0 where
  first : 1 ≤ a
  rising : a < b
  last : b ≤ N.vertices

ends_of : (N : Network) → IsNetwork N → (a b cost : ℕ) → get N.edges (a, b) ≡ Some cost → AreEnds N a b
ends_of N net a b cost e =
    let is = there (get N.edges (a, b)) cost e in
    record { first = net.joins.from_first a b is; rising = net.joins.rising a b is; last = net.joins.to_last a b is }

-- an entry of the map is an edge both ways
forth : (N : Network) (a b cost : ℕ) → AreEnds N a b → get N.edges (a, b) ≡ Some cost → edge N (a - 1 + 1) (b - 1 + 1) ≡ Some cost
forth N a b cost ends e =
    let low : min (a - 1 + 1) (b - 1 + 1) ≡ a = omega (arith, ends.first, ends.rising) in
    let high : max (a - 1 + 1) (b - 1 + 1) ≡ b = omega (arith, ends.first, ends.rising) in
    (λ i. get N.edges (low i, high i)) ∙ e

back_again : (N : Network) (a b cost : ℕ) → AreEnds N a b → get N.edges (a, b) ≡ Some cost → edge N (b - 1 + 1) (a - 1 + 1) ≡ Some cost
back_again N a b cost ends e =
    let low : min (b - 1 + 1) (a - 1 + 1) ≡ a = omega (arith, ends.first, ends.rising) in
    let high : max (b - 1 + 1) (a - 1 + 1) ≡ b = omega (arith, ends.first, ends.rising) in
    (λ i. get N.edges (low i, high i)) ∙ e

-- one more edge
pub added-more : (N : Network) → IsNetwork N → (left : List ((ℕ × ℕ) × ℕ)) (e : (ℕ × ℕ) × ℕ) (rows : List (List Arc)) → AreAdded N (e ∷ left) rows → AreAdded N left (both rows e)
added-more N net left e rows are =
    let is = All-head (λ (x : (ℕ × ℕ) × ℕ). get N.edges x.0 ≡ Some x.1) e left are.found in
    let ends = ends_of N net e.0.0 e.0.1 e.1 is in
    let u = e.0.0 - 1 in
    let v = e.0.1 - 1 in
    let first = arc v e.1 in
    let second = arc u e.1 in
    let once = with_arc rows u first in
    let at_u : u < length rows = omega (arith, ends.first, ends.rising, ends.last, are.count) in
    let at_v : v < length once = omega (arith, ends.first, ends.rising, ends.last, are.count, length-with_arc rows u first) in
    record {
      count = length-with_arc once v second ∙ length-with_arc rows u first ∙ are.count;
      sound = sound-more N once v second at_v
          (sound-more N rows u first at_u are.sound (record { inside = omega (arith, ends.first, ends.rising, ends.last); is_edge = forth N e.0.0 e.0.1 e.1 ends is }))
          (record { inside = omega (arith, ends.first, ends.rising, ends.last); is_edge = back_again N e.0.0 e.0.1 e.1 ends is });
      some = λ q cost there. elim (are.some q cost there) [
        | inl waits ↦ elim (Contains-cases e (q, cost) left waits) [
          | inl same ↦ inr (subst (IsAdded (with_arc once v second)) same (record { there = kept once v u second first at_v (added rows u first at_u); back = added once v second at_v }))
          | inr later ↦ inl later
        ]
        | inr before ↦ inr (record {
          there = kept once v (q.0 - 1) second (arc (q.1 - 1) cost) at_v (kept rows u (q.0 - 1) first (arc (q.1 - 1) cost) at_u before.there);
          back = kept once v (q.1 - 1) second (arc (q.0 - 1) cost) at_v (kept rows u (q.1 - 1) first (arc (q.0 - 1) cost) at_u before.back);
        })
      ];
      found = All-tail (λ (x : (ℕ × ℕ) × ℕ). get N.edges x.0 ≡ Some x.1) e left are.found;
    }

-- no arc yet
no_arcs : (n u : ℕ) → arcs_from (replicate n []) u ≡ []
no_arcs zero u = refl
no_arcs (suc n) zero = refl
no_arcs (suc n) (suc u) = no_arcs n u

pub added-none : (N : Network) (all : List ((ℕ × ℕ) × ℕ)) → All (λ e. get N.edges e.0 ≡ Some e.1) all → ((q : ℕ × ℕ) (cost : ℕ) → get N.edges q ≡ Some cost → Contains all (q, cost)) → AreAdded N all (replicate N.vertices [])
added-none N all found entries = record {
  count = length-replicate N.vertices [];
  sound = λ u. subst (All (IsArc N u)) (sym (no_arcs N.vertices u)) (All-nil (IsArc N u));
  some = λ q cost there. inl (entries q cost there);
  found = found;
}

-- both ends of the next edge are places
pub ends-inside : (N : Network) → IsNetwork N → (left : List ((ℕ × ℕ) × ℕ)) (e : (ℕ × ℕ) × ℕ) (rows : List (List Arc)) → AreAdded N (e ∷ left) rows → (1 ≤ e.0.0) × (1 ≤ e.0.1) × (e.0.0 - 1 < length rows) × (e.0.1 - 1 < length rows)
ends-inside N net left e rows are =
    let is = All-head (λ (x : (ℕ × ℕ) × ℕ). get N.edges x.0 ≡ Some x.1) e left are.found in
    let ends = ends_of N net e.0.0 e.0.1 e.1 is in
    (ends.first, omega (arith, ends.first, ends.rising), omega (arith, ends.first, ends.rising, ends.last, are.count), omega (arith, ends.first, ends.rising, ends.last, are.count))

none_left : (e : (ℕ × ℕ) × ℕ) → Contains [] e → ⊥
none_left e there = omega (arith, there.1)

-- the arcs of all edges, where each edge is an entry
pub added-all : (N : Network) → IsNetwork N → (rows : List (List Arc)) → AreAdded N [] rows → AreArcs N rows
added-all N net rows are = record {
  count = are.count;
  sound = are.sound;
  whole = whole;
}
  where
    ready : (a b cost : ℕ) → edge N a b ≡ Some cost → IsAdded rows ((min a b, max a b), cost)
    ready a b cost e = elim (are.some (min a b, max a b) cost e) [
      | inl waits ↦ absurd (none_left ((min a b, max a b), cost) waits)
      | inr done ↦ done
    ]

    whole : (a b cost : ℕ) → edge N a b ≡ Some cost → Contains (arcs_from rows (a - 1)) (arc (b - 1) cost)
    whole a b cost e = elim (cases_lt a b) [
      | inl lt ↦
          let low : min a b ≡ a = omega (arith, lt) in
          let high : max a b ≡ b = omega (arith, lt) in
          subst (λ x. Contains (arcs_from rows (x - 1)) (arc (b - 1) cost)) low (subst (λ x. Contains (arcs_from rows (min a b - 1)) (arc (x - 1) cost)) high (ready a b cost e).there)
      | inr ge ↦
          let low : min a b ≡ b = omega (arith, ge) in
          let high : max a b ≡ a = omega (arith, ge) in
          subst (λ x. Contains (arcs_from rows (x - 1)) (arc (b - 1) cost)) high (subst (λ x. Contains (arcs_from rows (max a b - 1)) (arc (x - 1) cost)) low (ready a b cost e).back)
    ]

-- the tree's entries are all edges of the network
pub added-begin : (N : Network) (t : BTreeMap (ℕ × ℕ) ℕ) (left : List ((ℕ × ℕ) × ℕ)) (rows : List (List Arc)) → edges_in t ≡ N.edges → left ≡ t.entries → All (λ e. tree.get pair_cmp t e.0 ≡ Some e.1) t.entries → rows ≡ replicate N.vertices [] → AreAdded N left rows
added-begin N t left rows same all found none =
    subst (λ l. AreAdded N l rows) (sym all)
    (subst (AreAdded N t.entries) (sym none)
    (added-none N t.entries
    (subst (λ m. All (λ e. get m e.0 ≡ Some e.1) t.entries) same (entries-found t found))
    (λ q cost e. entry-of t q cost (ap (λ m. get m q) same ∙ e))))
