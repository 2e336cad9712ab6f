use Rattle.std.proofs.Common.{sym, subst}
use Rattle.location_terms.specs.Fit.{AreTame}
use Rattle.dual_adjust.specs.Present.{Present}
use Rattle.dual_adjust.proofs.Gained.{risen_from}
use Rattle.dual_adjust.proofs.trials.Trials.ascend.Goals as goal

pub returns-clause-risen : goal.returns-clause-risen
returns-clause-risen c =
    let e = c.ascend_in.ensures in
    let I = c.args.boxed.now.instance in
    let tame : AreTame I c.self.inside.present.duals = subst (λ (p : Present). AreTame I p.duals) (sym c.self.view_is) c.requires.start.tame in
    risen_from I c.args.boxed.now.path _ (record { duals = c.ascend_in.new.duals; work = c.ascend_in.new.work }) tame e.ascended e.keeps e.blocked e.slacks e.work
