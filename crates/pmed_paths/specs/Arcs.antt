-- For private functions alone: no public contract cites this page.
-- The edges of a network by the vertex that they start from, which is at a place counted from 0.
use Rattle.std.specs.Prelude.{◌≡◌, ℕ, ◌+◌, ◌-◌, ◌<◌, List, [], ◌∷◌, ◌++◌, length, All, Contains, Some, slice_index_or, slice_set}
use Rattle.pmed_paths.specs.Network.{Network, edge}
use Rattle.pmed_paths.specs.declared.arcs.Arc.{Arc}

-- the arcs from the vertex at a place
abbrev pub arcs_from : List (List Arc) → ℕ → List Arc
arcs_from rows u = slice_index_or rows u []

-- an arc to the vertex at a place
abbrev pub arc : ℕ → ℕ → Arc
arc to cost = record { to = to; cost = cost }

-- an arc from a place is an edge of the network
pub record IsArc (N : Network) (u : ℕ) (a : Arc) : Type 0 where
  pub inside : a.to < N.vertices
  pub is_edge : edge N (u + 1) (a.to + 1) ≡ Some a.cost

-- rows that have both arcs of each edge, and no others
pub record AreArcs (N : Network) (rows : List (List Arc)) : Type 0 where
  pub count : length rows ≡ N.vertices
  pub sound : (u : ℕ) → All (IsArc N u) (arcs_from rows u)
  pub whole : (a b cost : ℕ) → edge N a b ≡ Some cost → Contains (arcs_from rows (a - 1)) (arc (b - 1) cost)

-- each arc leads to the place of a row
abbrev pub AreInside : List (List Arc) → Type 0
AreInside rows = (u : ℕ) → u < length rows → All (λ a. a.to < length rows) (arcs_from rows u)

-- rows with one more arc from a place
abbrev pub with_arc : List (List Arc) → ℕ → Arc → List (List Arc)
with_arc rows u a = slice_set rows u (arcs_from rows u ++ a ∷ [])
