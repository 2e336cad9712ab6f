use Rattle.std.proofs.Common.{take}
use Rattle.plan_search.proofs.Hinted.{AreHinted}
use Rattle.plan_search.proofs.chosen.flag_hinted.Given as goal

abbrev pub invariant-loop-id : goal.invariant-loop-id
invariant-loop-id l = AreHinted l.boxed.instance l.boxed.path (take l.id-index l.hint) l.flags
