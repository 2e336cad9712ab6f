use Rattle.std.proofs.Common.{take}
use Rattle.report.specs.Figures.{AreGathered}
use Rattle.report.proofs.served.fill_rows.Given as goal

-- the customers so far
abbrev pub invariant-loop-k : goal.invariant-loop-k
invariant-loop-k l = AreGathered l.inst (take l.k l.plan.serves) l.rows
