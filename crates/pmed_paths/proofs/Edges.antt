-- The ends of edges, and walks with one more edge.
use Rattle.std.proofs.Common.{◌≡◌, ℕ, ◌+◌, ◌≤◌, min, max, List, [], ◌∷◌, ◌++◌, Option, None, Some, IsSome, IfSome, unwrap_or, refl, sym, ap, subst, arith}
use Rattle.pmed_paths.specs.Network.{Network, IsNetwork, edge}
use Rattle.pmed_paths.specs.Walks.{IsWalk, end_of, walk_cost, HasWalk}

pub there : (o : Option ℕ) (x : ℕ) → o ≡ Some x → IsSome o
there None x e = absurd cc
there (Some y) x e = refl

pub what_is_there : (o : Option ℕ) → IsSome o → o ≡ Some (unwrap_or o 0)
what_is_there None e = absurd cc
what_is_there (Some y) e = refl

-- both ends of an edge are vertices
pub second_end : (N : Network) → IsNetwork N → (a b : ℕ) → IsSome (edge N a b) → (1 ≤ b) × (b ≤ N.vertices)
second_end N net a b is =
    let first : 1 ≤ min a b = net.joins.from_first (min a b) (max a b) is in
    let last : max a b ≤ N.vertices = net.joins.to_last (min a b) (max a b) is in
    (omega (arith, first), omega (arith, last))

pub first_end : (N : Network) → IsNetwork N → (a b : ℕ) → IsSome (edge N a b) → (1 ≤ a) × (a ≤ N.vertices)
first_end N net a b is =
    let first : 1 ≤ min a b = net.joins.from_first (min a b) (max a b) is in
    let last : max a b ≤ N.vertices = net.joins.to_last (min a b) (max a b) is in
    (omega (arith, first), omega (arith, last))

pub small-at : (o : Option ℕ) (p : ℕ) → IfSome o (λ cost. cost ≤ 999999999999999) → o ≡ Some p → p ≤ 999999999999999
small-at None p small e = absurd cc
small-at (Some x) p small e = let same : Some x ≡ Some p = e in let alike : x ≡ p = cc in omega (arith, alike, small)

-- an edge costs no more than an amount
pub edge-small : (N : Network) → IsNetwork N → (a b p : ℕ) → edge N a b ≡ Some p → p ≤ 999999999999999
edge-small N net a b p e = small-at (edge N a b) p (net.joins.small (min a b) (max a b)) e

-- an edge first, and then a walk from its end
pub walk-first : (N : Network) (a v b p q : ℕ) → edge N a v ≡ Some p → HasWalk N v b q → HasWalk N a b (p + q)
walk-first N a v b p q e w =
    let part : unwrap_or (edge N a v) 0 ≡ p = ap (λ o. unwrap_or o 0) e in
    record {
      walk = v ∷ w.walk;
      goes = (there (edge N a v) p e, w.goes);
      arrives = w.arrives;
      costs = omega (arith, part, w.costs);
    }

goes-more : (N : Network) (a v : ℕ) (walk : List ℕ) → IsWalk N a walk → IsSome (edge N (end_of a walk) v) → IsWalk N a (walk ++ v ∷ [])
goes-more N a v [] goes is = (is, tt)
goes-more N a v (b ∷ walk) goes is = (goes.0, goes-more N b v walk goes.1 is)

end-more : (a v : ℕ) (walk : List ℕ) → end_of a (walk ++ v ∷ []) ≡ v
end-more a v [] = refl
end-more a v (b ∷ walk) = end-more b v walk

cost-more : (N : Network) (a v : ℕ) (walk : List ℕ) → walk_cost N a (walk ++ v ∷ []) ≡ walk_cost N a walk + unwrap_or (edge N (end_of a walk) v) 0
cost-more N a v [] = omega arith
cost-more N a v (b ∷ walk) = omega (arith, cost-more N b v walk)

-- a walk, and an edge from its end
pub walk-last : (N : Network) (a u v p q : ℕ) → HasWalk N a u p → edge N u v ≡ Some q → HasWalk N a v (p + q)
walk-last N a u v p q w e =
    let at_end : edge N (end_of a w.walk) v ≡ Some q = subst (λ x. edge N x v ≡ Some q) (sym w.arrives) e in
    let part : unwrap_or (edge N (end_of a w.walk) v) 0 ≡ q = ap (λ o. unwrap_or o 0) at_end in
    record {
      walk = w.walk ++ v ∷ [];
      goes = goes-more N a v w.walk w.goes (there (edge N (end_of a w.walk) v) q at_end);
      arrives = end-more a v w.walk;
      costs = omega (arith, part, w.costs, cost-more N a v w.walk);
    }
