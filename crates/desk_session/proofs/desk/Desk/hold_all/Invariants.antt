use Rattle.std.proofs.Common.{◌≡◌, ◌++◌, fold, length, take, Ok}
use Rattle.desk_session.specs.Loaded.{held_next}
use Rattle.desk_session.proofs.desk.Desk.hold_all.Given as goal

-- the lines so far are held
abbrev pub invariant-loop-k : goal.invariant-loop-k
invariant-loop-k l =
    (fold held_next (Ok l.fn.self.session) (take l.k l.scenario.edits) ≡ Ok l.self.session) × (l.self.lines ≡ l.fn.self.lines ++ take l.k l.scenario.edits) × (length l.self.session.state.edits ≡ l.k)
