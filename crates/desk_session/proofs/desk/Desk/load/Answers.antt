use Rattle.std.proofs.Common.{Some, subst}
use Rattle.scenario_keeper.specs.Table.{Finds}
use Rattle.desk_session.specs.State.{KeeperState, keeper_state}
use Rattle.desk_session.proofs.Answered.{taken}
use Rattle.desk_session.proofs.desk.Desk.load.Goals as goal

pub returns-in-Ok-Some : goal.returns-in-Ok-Some
returns-in-Ok-Some g c =
    let before : KeeperState = keeper_state (g.K.Keeper.table c.args.keeper.now) (g.K.Keeper.faults c.args.keeper.now) in
    let after : KeeperState = keeper_state (g.K.Keeper.table c.get.new.self) (g.K.Keeper.faults c.get.new.self) in
    let found : Finds before.table c.args.name.now (Some c.in-Ok-Some.scenario) = subst (Finds before.table c.args.name.now) c.in-Ok-Some.field-0-is c.in-Ok-Some.ensures.found in
    taken c.args.self.now c.take_up.new.self before after c.get.ensures.counts c.get.ensures.unchanged c.args.name.now c.in-Ok-Some.scenario c.take_up.result found c.take_up.ensures.taken c.take_up.ensures.kept
