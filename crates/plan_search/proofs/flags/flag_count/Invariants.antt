use Rattle.std.proofs.Common.{◌≡◌, length}
use Rattle.plan_search.specs.Flags.{is_set}
use Rattle.plan_search.proofs.Flagging.{passing}
use Rattle.plan_search.proofs.flags.flag_count.Given as goal

abbrev pub invariant-loop-place : goal.invariant-loop-place
invariant-loop-place l = l.count ≡ length (passing (is_set l.flags) l.place)
