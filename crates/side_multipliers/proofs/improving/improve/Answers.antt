use Rattle.side_multipliers.proofs.Rises.{improved}
use Rattle.side_multipliers.proofs.improving.improve.Goals as goal

pub returns : goal.returns
returns c =
    improved c.args.inst.now c.args.path.now c.in_ok-boxed.boxed c.in_ok-boxed.ensures c.args.start c.in_ok-best.best c.ascend.new.self c.improve_in.new.best c.in_ok-best.ensures.duals c.ascend.ensures.keeps c.in_ok-improve_in.ensures _ c.into_duals.ensures
