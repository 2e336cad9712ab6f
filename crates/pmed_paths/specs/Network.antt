-- A network of vertices, and the costs of its edges. Edges have no direction.
use Rattle.std.specs.Prelude.{ℕ, ◌<◌, ◌≤◌, min, max, Option, IsSome, IfSome, refl}
use Rattle.std.specs.FinMap as map_of
use Rattle.std.specs.Coded.{Coded, code_by, coded×, coded_ℕ}
use Rattle.location_terms.specs.declared.limits.TheConstants.{MAX_AMOUNT, MAX_SITES}
use Rattle.location_terms.specs.Instance.{pair_cmp}

-- what an edge costs, by its ends, of which the lesser number comes first
abbrev pub Edges : Type 0
Edges = map_of.FinMap pair_cmp ℕ

-- vertices are numbered from 1; so many of them are to be opened as medians; costs are in millionths
pub record Network : Type 0 where
  pub vertices : ℕ
  pub medians : ℕ
  pub edges : Edges

abbrev pub network_of : ℕ → ℕ → Edges → Network
network_of vertices medians edges = record { vertices = vertices; medians = medians; edges = edges }

-- a pair of vertices without an order
abbrev pub pair : ℕ → ℕ → ℕ × ℕ
pair a b = (min a b, max a b)

-- what the edge between two vertices costs, where there is one
abbrev pub edge : Network → ℕ → ℕ → Option ℕ
edge N a b = map_of.get N.edges (pair a b)

-- edges between different vertices up to the last, each of a cost that an amount can be
pub record AreEdges (last : ℕ) (edges : Edges) : Type 0 where
  pub from_first : (a b : ℕ) → IsSome (map_of.get edges (a, b)) → 1 ≤ a
  pub rising : (a b : ℕ) → IsSome (map_of.get edges (a, b)) → a < b
  pub to_last : (a b : ℕ) → IsSome (map_of.get edges (a, b)) → b ≤ last
  pub small : (a b : ℕ) → IfSome (map_of.get edges (a, b)) (λ cost. cost ≤ MAX_AMOUNT)

-- an edge as it is read, up to the last vertex
pub record IsLine (last a b cost : ℕ) : Type 0 where
  pub first : 1 ≤ a
  pub second : 1 ≤ b
  pub first_known : a ≤ last
  pub second_known : b ≤ last
  pub small : cost ≤ MAX_AMOUNT

-- numbers of vertices and of medians within the limits
pub record AreCounts (vertices medians : ℕ) : Type 0 where
  pub some_vertex : 1 ≤ vertices
  pub few_vertices : vertices ≤ MAX_SITES
  pub some_median : 1 ≤ medians
  pub few_medians : medians ≤ MAX_SITES

-- a network within the limits
pub record IsNetwork (N : Network) : Type 0 where
  pub counts : AreCounts N.vertices N.medians
  pub joins : AreEdges N.vertices N.edges

-- the code by which a struct can have a network as its value
abbrev pub network_code : Coded Network
network_code =
    code_by (ℕ × (ℕ × Edges)) (coded× coded_ℕ (coded× coded_ℕ (map_of.code (coded× coded_ℕ coded_ℕ) coded_ℕ)))
    (λ N. (N.vertices, (N.medians, N.edges))) (λ p. record { vertices = p.0; medians = p.1.0; edges = p.1.1 }) (λ _. refl)
