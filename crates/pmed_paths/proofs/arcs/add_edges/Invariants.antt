use Rattle.pmed_paths.proofs.ArcRows.{AreAdded}
use Rattle.pmed_paths.proofs.arcs.add_edges.Given as goal

-- the arcs of the edges so far
abbrev pub invariant-loop-ends : goal.invariant-loop-ends
invariant-loop-ends l = AreAdded l.net l.ends-iterator l.rows
