-- The least cost of a walk of few edges is that of all walks.
use Rattle.std.proofs.Common.{◌≡◌, ◌==◌, ℕ, zero, suc, ◌+◌, ◌*◌, ◌≤◌, Bool, true, false, cond, List, [], ◌∷◌, map, length, Option, None, Some, unwrap_or, inl, inr, refl, subst, ◌∙◌, arith}
use Rattle.std.specs.List.{range_with_len}
use Rattle.std.proofs.lemmas.List.FromFn.{length-range_with_len}
use Rattle.std.proofs.lemmas.Bool.{eqb-true, eqb-false}
use Rattle.pmed_paths.specs.Network.{Network, IsNetwork, edge}
use Rattle.pmed_paths.specs.Walks.{IsWalk, end_of, walk_cost, HasWalk, IsLeastWalk, least_of, joined, least_within, least_cost}
use Rattle.pmed_paths.proofs.Costs.{IsAtMost, some-same, lesser-first, lesser-second, lesser-from, least_of-range, least_of-from, joined-from, joined-at_most}
use Rattle.pmed_paths.proofs.Edges.{what_is_there, second_end, edge-small, walk-first}
use Rattle.pmed_paths.proofs.Loops.{Within, without, length-without, Within-without, Within-walk, straight}

-- a walk of this cost, which so many edges can have
pub record HasShort (N : Network) (k a b cost : ℕ) : Type 0 where
  pub walk : HasWalk N a b cost
  pub small : cost ≤ k * 999999999999999

at_start : (N : Network) (k a b cost : ℕ) (t : Bool) → (a == b) ≡ t → cond t (Some 0) None ≡ Some cost → HasShort N k a b cost
at_start N k a b cost false is e = absurd cc
at_start N k a b cost true is e =
    let none : 0 ≡ cost = some-same 0 cost e in
    record { walk = record { walk = []; goes = tt; arrives = eqb-true a b is; costs = none }; small = omega (arith, none) }

one_more : (k p q cost : ℕ) → p ≤ 999999999999999 → q ≤ k * 999999999999999 → p + q ≡ cost → cost ≤ suc k * 999999999999999
one_more k p q cost small few e = omega (arith, small, few, e)

-- what is computed is what a walk costs
pub short_walk : (N : Network) → IsNetwork N → (k a b cost : ℕ) → least_within N k a b ≡ Some cost → HasShort N k a b cost
short_walk N net zero a b cost e = at_start N 0 a b cost (a == b) refl e
short_walk N net (suc k) a b cost e =
    elim (lesser-from (cond (a == b) (Some 0) None) (least_of (map (λ c. joined (edge N a c) (least_within N k c b)) (range_with_len 1 N.vertices))) cost e) [
      | inl here ↦ at_start N (suc k) a b cost (a == b) refl here
      | inr on ↦
          let v = least_of-from (λ c. joined (edge N a c) (least_within N k c b)) N.vertices 1 cost on in
          let parts = joined-from (edge N a v.0) (least_within N k v.0 b) cost v.1 in
          let rest = short_walk N net k v.0 b parts.1 parts.3 in
          subst (λ x. HasShort N (suc k) a b x) parts.4 (record {
            walk = walk-first N a v.0 b parts.0 parts.1 parts.2 rest.walk;
            small = one_more k parts.0 parts.1 (parts.0 + parts.1) (edge-small N net a v.0 parts.0 parts.2) rest.small refl;
          })
    ]

starts : (a b cost : ℕ) (t : Bool) → (a == b) ≡ t → a ≡ b → IsAtMost (cond t (Some 0) None) cost
starts a b cost true is same = omega arith
starts a b cost false is same = absurd (eqb-false a b is same)

-- no walk costs less, where as many edges are counted as there are vertices that it may come to
pub none_less : (N : Network) → IsNetwork N → (k : ℕ) (allowed : List ℕ) (a b : ℕ) (walk : List ℕ) → length allowed ≤ k → IsWalk N a walk → Within allowed walk → end_of a walk ≡ b → IsAtMost (least_within N k a b) (walk_cost N a walk)
none_less N net zero allowed a b [] few goes within arrives = starts a b 0 (a == b) refl arrives
none_less N net zero [] a b (v ∷ walk) few goes within arrives = absurd within.0
none_less N net zero (x ∷ allowed) a b (v ∷ walk) few goes within arrives = absurd (omega (arith, few))
none_less N net (suc k) allowed a b [] few goes within arrives =
    lesser-first (cond (a == b) (Some 0) None) (least_of (map (λ c. joined (edge N a c) (least_within N k c b)) (range_with_len 1 N.vertices))) 0 (starts a b 0 (a == b) refl arrives)
none_less N net (suc k) allowed a b (v ∷ walk) few goes within arrives =
    let f : ℕ → Option ℕ = λ c. joined (edge N a c) (least_within N k c b) in
    let way = straight N allowed v walk goes.1 within.1 in
    let rest = none_less N net k (without v allowed) v b way.way (omega (arith, length-without v allowed within.0, few)) way.goes (Within-without v allowed way.way way.within way.avoids) (way.arrives ∙ arrives) in
    let total = unwrap_or (edge N a v) 0 + walk_cost N v walk in
    let through : IsAtMost (f v) total = joined-at_most (edge N a v) (least_within N k v b) (unwrap_or (edge N a v) 0) (walk_cost N v way.way) total (what_is_there (edge N a v) goes.0) rest (omega (arith, way.cheaper)) in
    let end = second_end N net a v goes.0 in
    lesser-second (cond (a == b) (Some 0) None) (least_of (map f (range_with_len 1 N.vertices))) total (least_of-range f N.vertices 1 v total end.0 (omega (arith, end.1)) through)

-- each walk costs at least the least cost
pub no_dearer : (N : Network) → IsNetwork N → (a b other : ℕ) → HasWalk N a b other → IsAtMost (least_cost N a b) other
unfolding least_cost
no_dearer N net a b other w =
    subst (IsAtMost (least_within N N.vertices a b)) w.costs
    (none_less N net N.vertices (range_with_len 1 N.vertices) a b w.walk (omega (arith, length-range_with_len 1 N.vertices)) w.goes (Within-walk N net a w.walk w.goes) w.arrives)

-- what the least cost is of
pub has_walk : (N : Network) → IsNetwork N → (a b cost : ℕ) → least_cost N a b ≡ Some cost → HasWalk N a b cost × (cost ≤ N.vertices * 999999999999999)
unfolding least_cost
has_walk N net a b cost e = let s = short_walk N net N.vertices a b cost e in (s.walk, s.small)

least-by : (N : Network) → IsNetwork N → (a b : ℕ) (o : Option ℕ) → least_cost N a b ≡ o → IsLeastWalk N a b o
least-by N net a b None e = λ other w. subst (λ x. IsAtMost x other) e (no_dearer N net a b other w)
least-by N net a b (Some cost) e = ((has_walk N net a b cost e).0, λ other w. subst (λ x. IsAtMost x other) e (no_dearer N net a b other w))

-- the least cost is that of a cheapest walk
pub least_walk : (N : Network) (a b : ℕ) → IsNetwork N → IsLeastWalk N a b (least_cost N a b)
least_walk N a b net = least-by N net a b (least_cost N a b) refl
