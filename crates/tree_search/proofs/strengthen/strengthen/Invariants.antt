use Rattle.tree_search.specs.Searching.{GoesOn}
use Rattle.tree_search.proofs.strengthen.strengthen.Given as goal

abbrev pub invariant-loop-turn : goal.invariant-loop-turn
invariant-loop-turn g l = GoesOn l.boxed l.fn.search l.search
