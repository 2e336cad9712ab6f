use Rattle.std.proofs.Common.{◌≡◌, take}
use Rattle.instance_text.specs.Settled.{with_own_statuses}
use Rattle.instance_text.proofs.reading.settle.Given as goal

-- the first sites have their statuses
abbrev pub invariant-loop-i : goal.invariant-loop-i
invariant-loop-i l = l.inst ≡ with_own_statuses l.fn.inst (take l.i l.statuses)
