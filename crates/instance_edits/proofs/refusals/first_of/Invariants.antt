use Rattle.std.proofs.Common.{◌≡◌, ℕ, ◌<◌, false, get_or}
use Rattle.instance_edits.proofs.Faults.{no_fault}
use Rattle.instance_edits.proofs.refusals.first_of.Given as goal

-- none of those before is there
abbrev pub invariant-loop-fault : goal.invariant-loop-fault
invariant-loop-fault l = (k : ℕ) → k < l.fault-index → (get_or l.faults k no_fault).0 ≡ false
