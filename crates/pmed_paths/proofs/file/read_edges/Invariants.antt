use Rattle.pmed_paths.specs.Stored.{edges_in}
use Rattle.pmed_paths.proofs.ReadEdges.{AreRead}
use Rattle.pmed_paths.proofs.file.read_edges.Given as goal

-- the edges so far were read
abbrev pub invariant-loop : goal.invariant-loop
invariant-loop l = AreRead l.last l.counter l.count l.fn.reader l.reader (edges_in l.edges)
