-- What a file means is a valid instance.
use Rattle.std.proofs.Common.{◌≡◌, ℕ, ◌+◌, ◌≤◌, Bool, true, false, All, List, [], ◌∷◌, ◌++◌, Ok, Err, refl, sym, ap, subst, arith}
use Rattle.std.proofs.lemmas.Bool.Decides.{nat_tests}
use Rattle.std.proofs.lemmas.List.{append_assoc, append-nil}
use Rattle.std.proofs.lemmas.List.Elements.{All-head, All-tail}
use Rattle.location_terms.specs.Instance.{Instance, IsValid}
use Rattle.location_terms.specs.declared.limits.TheConstants.{MAX_AMOUNT, MAX_SITES}
use Rattle.number_words.specs.Words.{words_of}
use Rattle.fixed_cost.specs.declared.fault.FileKind.TheVariants.{BadSize, BadVertex}
use Rattle.fixed_cost.specs.Reading.{Rest, amount_at, size_at, is_within, many_at}
use Rattle.fixed_cost.proofs.ReadFacts.{bind-ok, done-same, finished-same, amount_at-small, size_at-tested, AlwaysGives, many_at-each}
use Rattle.instance_store.proofs.StoredLemmas.{IsValid-instance_of}
use Rattle.pmed_paths.specs.Network.{Network, AreCounts, AreEdges, IsLine, IsNetwork, network_of}
use Rattle.pmed_paths.specs.Median.{has_far_pair, median_instance}
use Rattle.pmed_paths.specs.Pmed.{head_at, edge_at, edges_of, edges_at, network_at, network_meaning, instance_at, at_last, median_meaning}
use Rattle.pmed_paths.specs.declared.limits.TheConstants.{MAX_EDGES}
use Rattle.pmed_paths.proofs.Trees.{edges_of-more, with_edge-within, no_edges-within}
use Rattle.pmed_paths.proofs.Medians.{are_parts}

are_counts : (vertices medians : ℕ) → is_within 1 MAX_SITES vertices ≡ true → is_within 1 MAX_SITES medians ≡ true → AreCounts vertices medians
are_counts vertices medians some few = record {
  some_vertex = grind (arith, nat_tests);
  few_vertices = grind (arith, nat_tests);
  some_median = grind (arith, nat_tests);
  few_medians = grind (arith, nat_tests);
}

is_line : (last a b cost : ℕ) → is_within 1 last a ≡ true → is_within 1 last b ≡ true → cost ≤ MAX_AMOUNT → IsLine last a b cost
is_line last a b cost one other small = record {
  first = grind (arith, nat_tests);
  second = grind (arith, nat_tests);
  first_known = grind (arith, nat_tests);
  second_known = grind (arith, nat_tests);
  small = small;
}

-- the numbers in a head are within the limits
head_gives : (r : Rest) (vertices edges medians : ℕ) (after : Rest) → head_at r ≡ Ok ((vertices, edges, medians), after) → AreCounts vertices medians
unfolding head_at
head_gives r vertices edges medians after e =
    let v = bind-ok (size_at BadSize (is_within 1 MAX_SITES) r) _ ((vertices, edges, medians), after) e in
    let n = bind-ok (size_at BadSize (is_within 0 MAX_EDGES) v.0.1) _ ((vertices, edges, medians), after) v.2 in
    let p = bind-ok (size_at BadSize (is_within 1 MAX_SITES) n.0.1) _ ((vertices, edges, medians), after) n.2 in
    let same : (v.0.0, n.0.0, p.0.0) ≡ (vertices, edges, medians) = ap (λ (x : (ℕ × ℕ × ℕ) × Rest). x.0) (done-same ((v.0.0, n.0.0, p.0.0), p.0.1) ((vertices, edges, medians), after) p.2) in
    subst (λ (x : ℕ × ℕ × ℕ). AreCounts x.0 x.2) same
    (are_counts v.0.0 p.0.0 (size_at-tested BadSize (is_within 1 MAX_SITES) r v.0.0 v.0.1 v.1) (size_at-tested BadSize (is_within 1 MAX_SITES) n.0.1 p.0.0 p.0.1 p.1))

-- what is known of an edge that was read
abbrev IsEdge : ℕ → (ℕ × ℕ) × ℕ → Type 0
IsEdge last e = IsLine last e.0.0 e.0.1 e.1

edge_gives : (last : ℕ) → AlwaysGives (λ (_ : ℕ). IsEdge last) (λ _. edge_at last)
unfolding edge_at
edge_gives last = record { gives = λ k r edge after e. by r edge after e }
  where
    by : (r : Rest) (edge : (ℕ × ℕ) × ℕ) (after : Rest) → edge_at last r ≡ Ok (edge, after) → IsEdge last edge
    by r edge after e =
        let a = bind-ok (size_at BadVertex (is_within 1 last) r) _ (edge, after) e in
        let b = bind-ok (size_at BadVertex (is_within 1 last) a.0.1) _ (edge, after) a.2 in
        let cost = bind-ok (amount_at b.0.1) _ (edge, after) b.2 in
        let same : ((a.0.0, b.0.0), cost.0.0) ≡ edge = ap (λ (x : ((ℕ × ℕ) × ℕ) × Rest). x.0) (done-same (((a.0.0, b.0.0), cost.0.0), cost.0.1) (edge, after) cost.2) in
        subst (IsEdge last) same
        (is_line last a.0.0 b.0.0 cost.0.0 (size_at-tested BadVertex (is_within 1 last) r a.0.0 a.0.1 a.1) (size_at-tested BadVertex (is_within 1 last) a.0.1 b.0.0 b.0.1 b.1) (amount_at-small b.0.1 cost.0.0 cost.0.1 cost.1))

-- edges behind others whose map is within the limits
edges_behind : (last : ℕ) (front edges : List ((ℕ × ℕ) × ℕ)) → AreEdges last (edges_of front) → All (IsEdge last) edges → AreEdges last (edges_of (front ++ edges))
edges_behind last front [] within each = subst (λ es. AreEdges last (edges_of es)) (sym (append-nil front)) within
edges_behind last front (((a, b), cost) ∷ edges) within each =
    let edge : (ℕ × ℕ) × ℕ = ((a, b), cost) in
    let more : AreEdges last (edges_of (front ++ edge ∷ [])) =
    subst (AreEdges last) (sym (edges_of-more front a b cost)) (with_edge-within last (edges_of front) a b cost within (All-head (IsEdge last) edge edges each)) in
    subst (λ es. AreEdges last (edges_of es)) (append_assoc front (edge ∷ []) edges) (edges_behind last (front ++ edge ∷ []) edges more (All-tail (IsEdge last) edge edges each))

-- the network of a file is within the limits
network_gives : (r : Rest) (N : Network) → network_at r ≡ Ok N → IsNetwork N
unfolding network_at edges_at
network_gives r N e =
    let head = bind-ok (head_at r) _ N e in
    let last = head.0.0.0 in
    let body = bind-ok (edges_at last head.0.0.1 head.0.1) _ N head.2 in
    let many = bind-ok (many_at (λ _. edge_at last) 0 head.0.0.1 head.0.1) _ body.0 body.1 in
    let each = many_at-each (IsEdge last) (λ _. edge_at last) (edge_gives last) head.0.0.1 0 head.0.1 many.0.0 many.0.1 many.1 in
    let same = ap (λ x. x.0) (done-same (edges_of many.0.0, many.0.1) body.0 many.2) in
    subst IsNetwork (finished-same (network_of last head.0.0.2 body.0.0) N body.0.1 body.2)
    (record {
      counts = head_gives r last head.0.0.1 head.0.0.2 head.0.1 head.1;
      joins = subst (AreEdges last) same (edges_behind last [] many.0.0 (no_edges-within last) each.1);
    })

valid-near : (N : Network) → IsNetwork N → has_far_pair N ≡ false → IsValid (median_instance N)
unfolding median_instance
valid-near N net near = IsValid-instance_of N.medians N.medians (N.vertices + 1) (N.vertices + 1) _ _ (are_parts N net near)

pub valid-meant : (bytes : List ℕ) (I : Instance) → median_meaning bytes ≡ Ok I → IsValid I
unfolding median_meaning network_meaning
valid-meant bytes I e =
    let net = bind-ok (network_meaning bytes) _ I e in
    by net.0 (network_gives _ net.0 net.1) (has_far_pair net.0) refl net.2
  where
    failed : Err (at_last (words_of bytes)) ≡ Ok I → ⊥
    failed e = cc

    by : (N : Network) → IsNetwork N → (far : Bool) → has_far_pair N ≡ far → instance_at (words_of bytes) N ≡ Ok I → IsValid I
    by N within true far given = absurd (failed (rw far at given))
    by N within false near given = subst IsValid (done-same (median_instance N) I (rw near at given)) (valid-near N within near)
