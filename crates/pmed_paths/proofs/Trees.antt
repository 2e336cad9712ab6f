-- A tree of edges, as a map.
use Rattle.std.proofs.Common.{◌≡◌, ℕ, ◌<◌, ◌≤◌, ◌==◌, min, max, not, Bool, true, false, cond, List, [], ◌∷◌, ◌++◌, map, filter, reverse, All, Contains, Option, None, Some, unwrap_or, IfSome, refl, sym, ap, subst, ◌∙◌, arith, BTreeMap}
use Rattle.std.proofs.lemmas.Bool.{eqb-false}
use Rattle.std.proofs.lemmas.List.{reverse-append}
use Rattle.std.proofs.lemmas.Map.Views.{Contains-from_lookup}
use Rattle.std.specs.Cmp.{eq_by_cmp_equiv}
use Rattle.std.specs.Map.{lookup}
use Rattle.std.specs.BTreeMap as tree
use Rattle.std.specs.Ordering.{eq_by_cmp}
use Rattle.std.specs.FinMap.{get, find, insert, from_entries, get-empty, get-from_entries, get-insert, same_map}
use Rattle.location_terms.specs.Instance.{pair_cmp}
use Rattle.location_terms.proofs.Table.{pair_cmp-exact, pair_cmp-total, tied}
use Rattle.pmed_paths.specs.Network.{Edges, pair, AreEdges, IsLine}
use Rattle.pmed_paths.specs.Pmed.{is_proper, without_order, edges_of}
use Rattle.pmed_paths.specs.Stored.{edges_in, with_edge}
use Rattle.pmed_paths.proofs.Costs.{some-same}
use Rattle.pmed_paths.proofs.Edges.{there, what_is_there, small-at}

lookup-find : (q : ℕ × ℕ) (es : List ((ℕ × ℕ) × ℕ)) → find pair_cmp q es ≡ lookup (eq_by_cmp pair_cmp q) es
lookup-find q [] = refl
lookup-find q (e ∷ es) = ap (cond (eq_by_cmp pair_cmp q e.0) (Some e.1)) (lookup-find q es)

-- the map has what the tree finds
pub get-edges_in : (t : BTreeMap (ℕ × ℕ) ℕ) (q : ℕ × ℕ) → get (edges_in t) q ≡ tree.get pair_cmp t q
get-edges_in t q = get-from_entries pair_cmp-total t.entries q ∙ lookup-find q t.entries

-- each edge of the map is an entry of the tree
pub entry-of : (t : BTreeMap (ℕ × ℕ) ℕ) (q : ℕ × ℕ) (cost : ℕ) → get (edges_in t) q ≡ Some cost → Contains t.entries (q, cost)
entry-of t q cost e = Contains-from_lookup {eq = eq_by_cmp pair_cmp} (λ x y same. pair_cmp-exact x y (tied (pair_cmp x y) same)) q cost t.entries (sym (get-edges_in t q) ∙ e)

-- each entry is an edge of the map
pub entries-found : (t : BTreeMap (ℕ × ℕ) ℕ) → All (λ e. tree.get pair_cmp t e.0 ≡ Some e.1) t.entries → All (λ e. get (edges_in t) e.0 ≡ Some e.1) t.entries
entries-found t found = λ k d below. get-edges_in t _ ∙ found k d below

-- to insert into the tree is to insert into the map
pub edges_in-insert : (m n : BTreeMap (ℕ × ℕ) ℕ) (k : ℕ × ℕ) (cost : ℕ) → tree.Updates pair_cmp m n k (Some cost) → edges_in n ≡ insert (edges_in m) k cost
edges_in-insert m n k cost updates =
    same_map pair_cmp-total pair_cmp-exact (edges_in n) (insert (edges_in m) k cost)
    (λ q. get-edges_in n q ∙ updates.0 q ∙ turned q ∙ sym (get-insert pair_cmp-total (edges_in m) k cost q))
  where
    turned : (q : ℕ × ℕ) → cond (eq_by_cmp pair_cmp k q) (Some cost) (tree.get pair_cmp m q) ≡ cond (eq_by_cmp pair_cmp q k) (Some cost) (get (edges_in m) q)
    turned q =
        let swapped : eq_by_cmp pair_cmp k q ≡ eq_by_cmp pair_cmp q k = (eq_by_cmp_equiv pair_cmp-total).symm k q in
        let same : tree.get pair_cmp m q ≡ get (edges_in m) q = sym (get-edges_in m q) in
        λ i. cond (swapped i) (Some cost) (same i)

-- an edge that is put into the tree
pub edges_in-put : (m n : BTreeMap (ℕ × ℕ) ℕ) (a b low high cost : ℕ) → (a == b) ≡ false → low ≡ min a b → high ≡ max a b → tree.Updates pair_cmp m n (low, high) (Some cost) → edges_in n ≡ with_edge (edges_in m) a b cost
edges_in-put m n a b low high cost apart first second updates =
    rw apart (edges_in-insert m n (low, high) cost updates ∙ (λ i. insert (edges_in m) (first i, second i) cost))

-- one more edge that was read
pub edges_of-more : (front : List ((ℕ × ℕ) × ℕ)) (a b cost : ℕ) → edges_of (front ++ ((a, b), cost) ∷ []) ≡ with_edge (edges_of front) a b cost
edges_of-more front a b cost =
    let last : reverse (front ++ ((a, b), cost) ∷ []) ≡ ((a, b), cost) ∷ reverse front = reverse-append front (((a, b), cost) ∷ []) in
    ap (λ xs. from_entries {R = pair_cmp} (map without_order (filter is_proper xs))) last ∙ by (a == b)
  where
    by : (t : Bool) → from_entries {R = pair_cmp} (map without_order (cond (not t) (((a, b), cost) ∷ filter is_proper (reverse front)) (filter is_proper (reverse front)))) ≡ cond t (edges_of front) (insert (edges_of front) (pair a b) cost)
    by true = refl
    by false = refl

-- what is so of each edge
record IsJoin (last : ℕ) (q : ℕ × ℕ) (cost : ℕ) : Type 0 where
  first : 1 ≤ q.0
  rising : q.0 < q.1
  known : q.1 ≤ last
  small : cost ≤ 999999999999999

all_small : (o : Option ℕ) → ((x : ℕ) → o ≡ Some x → x ≤ 999999999999999) → IfSome o (λ cost. cost ≤ 999999999999999)
all_small None small = tt
all_small (Some x) small = small x refl

within-from : (last : ℕ) (edges : Edges) → ((q : ℕ × ℕ) (cost : ℕ) → get edges q ≡ Some cost → IsJoin last q cost) → AreEdges last edges
within-from last edges each = record {
  from_first = λ a b is. (each (a, b) (unwrap_or (get edges (a, b)) 0) (what_is_there (get edges (a, b)) is)).first;
  rising = λ a b is. (each (a, b) (unwrap_or (get edges (a, b)) 0) (what_is_there (get edges (a, b)) is)).rising;
  to_last = λ a b is. (each (a, b) (unwrap_or (get edges (a, b)) 0) (what_is_there (get edges (a, b)) is)).known;
  small = λ a b. all_small (get edges (a, b)) (λ x e. (each (a, b) x e).small);
}

joins-of : (last : ℕ) (edges : Edges) → AreEdges last edges → (q : ℕ × ℕ) (cost : ℕ) → get edges q ≡ Some cost → IsJoin last q cost
joins-of last edges within q cost e =
    let is = there (get edges q) cost e in
    record { first = within.from_first q.0 q.1 is; rising = within.rising q.0 q.1 is; known = within.to_last q.0 q.1 is; small = small-at (get edges q) cost (within.small q.0 q.1) e }

-- a new edge is as the others are
pub with_edge-within : (last : ℕ) (edges : Edges) (a b cost : ℕ) → AreEdges last edges → IsLine last a b cost → AreEdges last (with_edge edges a b cost)
with_edge-within last edges a b cost within line = by (a == b) refl
  where
    fresh : (a == b) ≡ false → (q : ℕ × ℕ) (t : Bool) → eq_by_cmp pair_cmp q (pair a b) ≡ t → (x : ℕ) → cond t (Some cost) (get edges q) ≡ Some x → IsJoin last q x
    fresh apart q false other x e = joins-of last edges within q x e
    fresh apart q true same x e =
        let here : q ≡ pair a b = pair_cmp-exact q (pair a b) (tied (pair_cmp q (pair a b)) same) in
        let value : cost ≡ x = some-same cost x e in
        let differ : a ≡ b → ⊥ = eqb-false a b apart in
        subst (λ p. IsJoin last p x) (sym here) (record { first = omega (arith, line.first, line.second); rising = omega (arith, differ); known = omega (arith, line.first_known, line.second_known); small = omega (arith, line.small, value) })

    by : (t : Bool) → (a == b) ≡ t → AreEdges last (cond t edges (insert edges (pair a b) cost))
    by true is = within
    by false is = within-from last (insert edges (pair a b) cost) (λ q x e. fresh is q (eq_by_cmp pair_cmp q (pair a b)) refl x (sym (get-insert pair_cmp-total edges (pair a b) cost q) ∙ e))

-- no edge yet
pub no_edges-within : (last : ℕ) → AreEdges last (from_entries [])
no_edges-within last = within-from last (from_entries []) (λ q x e. absurd (nothing q x e))
  where
    nothing : (q : ℕ × ℕ) (x : ℕ) → get (from_entries {R = pair_cmp} []) q ≡ Some x → ⊥
    nothing q x e = let none_there : None ≡ Some x = sym (get-empty pair_cmp q) ∙ e in cc

pub none-within : (last : ℕ) (t : BTreeMap (ℕ × ℕ) ℕ) → t.entries ≡ [] → AreEdges last (edges_in t)
none-within last t none = subst (λ es. AreEdges last (from_entries es)) (sym none) (no_edges-within last)
