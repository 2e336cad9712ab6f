-- What a p-median file of the OR-Library means. The ranges of the numbers, that a cost may have decimals, that there may be no edge, that an edge may join a vertex to itself, that more medians than vertices may be asked for, that there is no lane where no walk leads, and the place of costs that are too big are choices of this project; that the last edge of a pair counts is the library's.
use Rattle.std.specs.Prelude.{◌==◌, ℕ, ◌-◌, Bool, not, List, map, filter, reverse, Result, Ok, Err, if◌then◌else◌}
use Rattle.std.specs.FinMap as map_of
use Rattle.location_terms.specs.Instance.{Instance}
use Rattle.location_terms.specs.declared.limits.TheConstants.{MAX_SITES}
use Rattle.number_words.specs.Words.{PlacedWord, words_of}
use Rattle.fixed_cost.specs.Faults.{ended_fault}
use Rattle.fixed_cost.specs.declared.fault.FormFault.{FormFault}
use Rattle.fixed_cost.specs.declared.fault.FormFault.TheVariants.{File, NoMemory}
use Rattle.fixed_cost.specs.Reading.{Rest, ◌>>=◌, all_of, amount_at, size_at, is_within, many_at, finished}
use Rattle.fixed_cost.specs.declared.fault.FileFault.{FileFault}
use Rattle.fixed_cost.specs.declared.fault.FileKind.TheVariants.{BadSize, BadVertex, TooBig}
use Rattle.pmed_paths.specs.Network.{Network, Edges, network_of, pair}
use Rattle.pmed_paths.specs.Median.{has_far_pair, median_instance}
use Rattle.pmed_paths.specs.declared.median.PathFault.{PathFault}
use Rattle.pmed_paths.specs.declared.median.PathFault.TheVariants as path
use Rattle.pmed_paths.specs.declared.limits.TheConstants.{MAX_EDGES}

-- the head of the file: the numbers of vertices, of edges and of medians
unfoldable pub head_at : Rest → Result ((ℕ × ℕ × ℕ) × Rest) FileFault
head_at r = do
  vertices ← size_at BadSize (is_within 1 MAX_SITES) r
  edges ← size_at BadSize (is_within 0 MAX_EDGES) vertices.1
  medians ← size_at BadSize (is_within 1 MAX_SITES) edges.1
  Ok ((vertices.0, edges.0, medians.0), medians.1)

-- an edge as it stands in the file: two vertices, up to the last one, and a cost
unfoldable pub edge_at : ℕ → Rest → Result (((ℕ × ℕ) × ℕ) × Rest) FileFault
edge_at last r = do
  a ← size_at BadVertex (is_within 1 last) r
  b ← size_at BadVertex (is_within 1 last) a.1
  cost ← amount_at b.1
  Ok (((a.0, b.0), cost.0), cost.1)

-- whether an edge joins two different vertices
abbrev pub is_proper : (ℕ × ℕ) × ℕ → Bool
is_proper e = not (e.0.0 == e.0.1)

abbrev pub without_order : (ℕ × ℕ) × ℕ → (ℕ × ℕ) × ℕ
without_order e = (pair e.0.0 e.0.1, e.1)

-- the edges that were read as a map: of several between the same two vertices the last counts, which is the first from behind
abbrev pub edges_of : List ((ℕ × ℕ) × ℕ) → Edges
edges_of edges = map_of.from_entries (map without_order (filter is_proper (reverse edges)))

-- so many edges, as a map
unfoldable pub edges_at : ℕ → ℕ → Rest → Result (Edges × Rest) FileFault
edges_at last count r = do
  edges ← many_at (λ _. edge_at last) 0 count r
  Ok (edges_of edges.0, edges.1)

-- the network that the words mean
unfoldable pub network_at : Rest → Result Network FileFault
network_at r = do
  head ← head_at r
  edges ← edges_at head.0.0 head.0.1 head.1
  finished (network_of head.0.0 head.0.2 edges.0) edges.1

-- the network that the bytes of a file mean, or the first fault of a word
unfoldable pub network_meaning : List ℕ → Result Network FileFault
network_meaning bytes = network_at (all_of (words_of bytes))

-- the fault of costs at the word before the end of a text, given the fault of the end
abbrev pub before_end : FileFault → FileFault
before_end end = record { kind = TooBig; line = end.line; word = end.word - 1 }

-- the fault of costs, at the last word of the file
abbrev pub at_last : List PlacedWord → FileFault
at_last ws = before_end (ended_fault ws)

-- a fault of a network as one of the file
abbrev pub fault_in : List PlacedWord → PathFault → FormFault
fault_in ws path.TooBig = File (at_last ws)
fault_in ws path.NoMemory = NoMemory

-- the instance of a network, or the fault of its costs
abbrev pub instance_at : List PlacedWord → Network → Result Instance FileFault
instance_at ws N = if has_far_pair N then Err (at_last ws) else Ok (median_instance N)

-- the instance that the bytes of a file mean, or the first fault of a word; after all of them, at the last word, that a cheapest walk costs more than an amount can be
unfoldable pub median_meaning : List ℕ → Result Instance FileFault
median_meaning bytes = do
  N ← network_meaning bytes
  instance_at (words_of bytes) N
