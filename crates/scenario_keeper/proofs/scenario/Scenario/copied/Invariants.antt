use Rattle.std.proofs.Common.{◌≡◌, map, take}
use Rattle.scenario_keeper.proofs.scenario.Scenario.copied.Given as goal

abbrev pub invariant-loop-line : goal.invariant-loop-line
invariant-loop-line l = l.copy ≡ record { base = l.self.base; edits = map (λ line. line.items) (take l.line-index l.line-items) }
