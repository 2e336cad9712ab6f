use Rattle.pmed_paths.specs.Labels.{IsGone, offers}
use Rattle.pmed_paths.proofs.labels.relax.Given as goal

-- the arcs so far were offered
abbrev pub invariant-loop-k : goal.invariant-loop-k
invariant-loop-k l = IsGone l.row l.label l.k l.fn.labels (offers l.fn.waiting) l.labels (offers l.waiting)
