use Rattle.std.proofs.Common.{◌≡◌, Some, map}
use Rattle.plan_search.specs.Flags.{flagged}
use Rattle.plan_search.specs.Packing.{AreRooms}
use Rattle.plan_search.proofs.Turning.{after_turns}
use Rattle.plan_search.proofs.lanes.take_in_turn.Given as goal

abbrev pub invariant-loop-turn : goal.invariant-loop-turn
invariant-loop-turn l = record {
  taken : after_turns l.boxed.instance l.boxed.path (flagged l.flags) (map (λ t. t.cust) l.turns) l.turn-index ≡ Some l.taken.items;
  rooms : AreRooms l.boxed.instance l.taken.items l.rooms;
}
