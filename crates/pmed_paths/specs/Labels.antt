-- Labels of vertices by place, and what waits with them, as a search for cheapest walks keeps them.
use Rattle.std.specs.Prelude.{◌≡◌, ◌==◌, ℕ, ◌+◌, ◌<◌, ◌≤◌, min, List, ◌∷◌, map, length, All, Contains, ◌⊎◌, Option, None, Some, IsPermutation, slice_index, slice_index_or, slice_set, sum_by, if◌then◌else◌}
use Rattle.std.specs.BinaryHeap.{heap_items}
use Rattle.std.specs.declared.collections.binary_heap.BinaryHeap.{BinaryHeap}
use Rattle.std.specs.declared.cmp.Reverse.{Reverse}
use Rattle.pmed_paths.specs.Network.{Network, IsNetwork}
use Rattle.pmed_paths.specs.Walks.{HasWalk}
use Rattle.pmed_paths.specs.Arcs.{arcs_from, AreArcs}
use Rattle.pmed_paths.specs.declared.arcs.Arc.{Arc}
use Rattle.pmed_paths.specs.declared.labels.TheConstants.{NO_WALK}

-- the cost that a label stands for
abbrev pub cost_in : ℕ → Option ℕ
cost_in label = if label == NO_WALK then None else Some label

-- the label of a way over one more arc, which goes no further than the greatest
abbrev pub through : ℕ → ℕ → ℕ
through label cost = min (label + cost) NO_WALK

-- the vertex at a place was offered a label: it takes it, and waits with it, only where it is less
abbrev pub IsOffered : List ℕ → List (ℕ × ℕ) → ℕ → ℕ → List ℕ → List (ℕ × ℕ) → Type 0
IsOffered L H v cost L' H' = ((slice_index L v ≤ cost) × (L' ≡ L) × (H' ≡ H)) ⊎ ((cost < slice_index L v) × (L' ≡ slice_set L v cost) × IsPermutation ((cost, v) ∷ H) H')

-- labels that only fell, and what fell waits; the sum of the labels and of what waits did not grow
pub record IsBetter (L : List ℕ) (H : List (ℕ × ℕ)) (L' : List ℕ) (H' : List (ℕ × ℕ)) : Type 0 where
  pub same_length : length L' ≡ length L
  pub lower : (u : ℕ) → slice_index L' u ≤ slice_index L u
  pub kept : (label u : ℕ) → Contains H (label, u) → Contains H' (label, u)
  pub waits : (u : ℕ) → (slice_index L' u ≡ slice_index L u) ⊎ Contains H' (slice_index L' u, u)
  pub fewer : sum_by (λ x. x) L' + length H' ≤ sum_by (λ x. x) L + length H
  pub inside : All (λ e. e.1 < length L) H → All (λ e. e.1 < length L') H'

-- nothing is gained over the first k of these arcs from a vertex with this label
abbrev pub IsRelaxed : List Arc → ℕ → ℕ → List ℕ → Type 0
IsRelaxed row k label L = (j : ℕ) (d : Arc) → j < k → j < length row → slice_index L (slice_index_or row j d).to ≤ through label (slice_index_or row j d).cost

-- a label comes over one of these arcs from a vertex with that one
pub record IsVia (row : List Arc) (label u next : ℕ) : Type 0 where
  pub over : Arc
  pub known : Contains row over
  pub leads : over.to ≡ u
  pub value : next ≡ through label over.cost

-- the labels after the first k arcs from a vertex were offered
pub record IsGone (row : List Arc) (label k : ℕ) (L : List ℕ) (H : List (ℕ × ℕ)) (L' : List ℕ) (H' : List (ℕ × ℕ)) : Type 0 where
  pub better : IsBetter L H L' H'
  pub relaxed : IsRelaxed row k label L'
  pub from : (u : ℕ) → (slice_index L' u ≡ slice_index L u) ⊎ IsVia row label u (slice_index L' u)

-- a search from the vertex at place s: labels are costs of walks, and each vertex waits or gives nothing more
pub record IsSearch (N : Network) (s : ℕ) (rows : List (List Arc)) (L : List ℕ) (H : List (ℕ × ℕ)) : Type 0 where
  pub reached : (u : ℕ) → u < length L → (slice_index L u ≡ NO_WALK) ⊎ HasWalk N (s + 1) (u + 1) (slice_index L u)
  pub begun : slice_index L s ≤ 0
  pub settled : (u : ℕ) → u < length L → Contains H (slice_index L u, u) ⊎ IsRelaxed (arcs_from rows u) (length (arcs_from rows u)) (slice_index L u) L

-- a search from any vertex of a network that has these arcs goes on as one
abbrev pub GoesOn : List (List Arc) → List ℕ → List (ℕ × ℕ) → List ℕ → List (ℕ × ℕ) → Type 0
GoesOn rows L H L' H' = (N : Network) (s : ℕ) → IsNetwork N → AreArcs N rows → IsSearch N s rows L H → IsSearch N s rows L' H'

-- what waits, each with its label first
abbrev pub offers : {Z : Type 0} → BinaryHeap (Reverse (ℕ × ℕ)) Z → List (ℕ × ℕ)
offers h = map (λ e. e.0) (heap_items h)
