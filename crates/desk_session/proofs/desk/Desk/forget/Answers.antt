use Rattle.std.proofs.Common.{false, subst}
use Rattle.scenario_keeper.specs.Table.{SaysWhether}
use Rattle.desk_session.specs.State.{KeeperState, keeper_state}
use Rattle.desk_session.proofs.Answered.{absent}
use Rattle.desk_session.proofs.desk.Desk.forget.Goals as goal

pub returns-in-Ok-false : goal.returns-in-Ok-false
returns-in-Ok-false g c =
    let before : KeeperState = keeper_state (g.K.Keeper.table c.args.keeper.now) (g.K.Keeper.faults c.args.keeper.now) in
    let after : KeeperState = keeper_state (g.K.Keeper.table c.forget.new.self) (g.K.Keeper.faults c.forget.new.self) in
    let unknown : SaysWhether before.table c.args.name.now false = subst (SaysWhether before.table c.args.name.now) c.in-Ok-false.field-0-test c.in-Ok-false.ensures.known in
    absent c.args.self.now before after c.forget.ensures.counts c.args.name.now c.refusal.result c.refusal.ensures unknown c.in-Ok-false.ensures.ok
