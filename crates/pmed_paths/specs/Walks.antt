-- Walks through a network, and what the cheapest of them cost.
use Rattle.std.specs.Prelude.{◌≡◌, ◌==◌, ℕ, zero, suc, ◌+◌, ◌≤◌, min, List, [], ◌∷◌, map, Option, None, Some, IsSome, unwrap_or, if◌then◌else◌}
use Rattle.std.specs.List.{range_with_len}
use Rattle.pmed_paths.specs.Network.{Network, edge}

-- a walk from a vertex: the vertices that it comes to in turn, each joined by an edge to the one before
abbrev pub IsWalk : Network → ℕ → List ℕ → Type 0
IsWalk N a [] = Unit {0}
IsWalk N a (b ∷ walk) = IsSome (edge N a b) × IsWalk N b walk

-- the vertex at which a walk ends
abbrev pub end_of : ℕ → List ℕ → ℕ
end_of a [] = a
end_of a (b ∷ walk) = end_of b walk

-- what the edges of a walk cost together
abbrev pub walk_cost : Network → ℕ → List ℕ → ℕ
walk_cost N a [] = 0
walk_cost N a (b ∷ walk) = unwrap_or (edge N a b) 0 + walk_cost N b walk

-- a walk from a to b of this cost
pub record HasWalk (N : Network) (a b cost : ℕ) : Type 0 where
  pub walk : List ℕ
  pub goes : IsWalk N a walk
  pub arrives : end_of a walk ≡ b
  pub costs : walk_cost N a walk ≡ cost

-- the cost of a cheapest walk from a to b, or none where no walk leads there
abbrev pub IsLeastWalk : Network → ℕ → ℕ → Option ℕ → Type 0
IsLeastWalk N a b (Some cost) = HasWalk N a b cost × ((other : ℕ) → HasWalk N a b other → cost ≤ other)
IsLeastWalk N a b None = (other : ℕ) → HasWalk N a b other → ⊥

-- the lesser of two costs, where there are any
abbrev pub lesser : Option ℕ → Option ℕ → Option ℕ
lesser None y = y
lesser (Some x) None = Some x
lesser (Some x) (Some y) = Some (min x y)

-- the least of the costs that there are
abbrev pub least_of : List (Option ℕ) → Option ℕ
least_of [] = None
least_of (x ∷ xs) = lesser x (least_of xs)

-- an edge and a way on from its end
abbrev pub joined : Option ℕ → Option ℕ → Option ℕ
joined None y = None
joined (Some x) None = None
joined (Some x) (Some y) = Some (x + y)

-- the least cost of a walk of at most so many edges from a to b
abbrev pub least_within : Network → ℕ → ℕ → ℕ → Option ℕ
least_within N zero a b = if a == b then Some 0 else None
least_within N (suc k) a b = lesser (if a == b then Some 0 else None) (least_of (map (λ c. joined (edge N a c) (least_within N k c b)) (range_with_len 1 N.vertices)))

-- the least cost of a walk from a to b; a cheapest one needs no more edges than there are vertices, and the law `least_walks` says that no other walk costs less
unfoldable pub least_cost : Network → ℕ → ℕ → Option ℕ
least_cost N a b = least_within N N.vertices a b

-- the least costs of walks from a vertex to each vertex, in order
abbrev pub least_costs : Network → ℕ → List (Option ℕ)
least_costs N a = map (λ b. least_cost N a b) (range_with_len 1 N.vertices)
