-- How a network is stored: its edges in a tree by their ends.
use Rattle.std.specs.Prelude.{ℕ, ◌==◌, if◌then◌else◌}
use Rattle.std.specs.FinMap as map_of
use Rattle.std.specs.BTreeMap.{BTreeMap}
use Rattle.pmed_paths.specs.Network.{Network, Edges, network_of, pair}
use Rattle.pmed_paths.specs.declared.network.Network.TheInside.{Inside}

-- the edges of a tree
abbrev pub edges_in : BTreeMap (ℕ × ℕ) ℕ → Edges
edges_in tree = map_of.from_entries tree.entries

-- the network that is stored
abbrev pub stored_network : Inside → Network
stored_network a = network_of a.vertices a.medians (edges_in a.edges)

-- the edges with one more, in the place of an earlier one between the same two vertices; one from a vertex to itself is dropped
abbrev pub with_edge : Edges → ℕ → ℕ → ℕ → Edges
with_edge edges a b cost = if a == b then edges else map_of.insert edges (pair a b) cost
