use Rattle.std.proofs.Common.{◌≡◌, ap, ◌∙◌}
use Rattle.desk_session.specs.State.{DeskView, KeeperState, keeper_state, scenario_of}
use Rattle.desk_session.proofs.Answered.{kept, says}
use Rattle.desk_session.proofs.desk.Desk.keep.Goals as goal

pub returns-in-Ok : goal.returns-in-Ok
returns-in-Ok g c =
    let before : KeeperState = keeper_state (g.K.Keeper.table c.args.keeper.now) (g.K.Keeper.faults c.args.keeper.now) in
    let after : KeeperState = keeper_state (g.K.Keeper.table c.put.new.self) (g.K.Keeper.faults c.put.new.self) in
    let whole : c.self.inside.kept ≡ scenario_of c.args.self.now.session.state c.args.self.now.lines = c.self.invariant.kept ∙ ap (λ (d : DeskView). scenario_of d.session.state d.lines) c.self.view_is in
    kept c.args.self.now before after c.put.ensures.counts c.args.name.now c.self.inside.kept c.of.result (c.of.ensures ∙ ap says c.in_ok-text.ensures) whole c.in-Ok.ensures.ok
