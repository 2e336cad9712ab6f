use Rattle.dual_adjust.proofs.Gained.{adjusted_once}
use Rattle.dual_adjust.proofs.adjusting.adjust_once.Goals as goal

pub returns-clause-adjusted : goal.returns-clause-adjusted
returns-clause-adjusted c =
    let tried = c.next_gain-place.ensures.tried in
    adjusted_once c.args.boxed.now.instance c.args.boxed.now.path c.args.trials.now.duals c.ascend.new.self.duals c.next_gain-place.new.trials c.next_gain-place.result c.ascend.ensures.ascended c.ascend.ensures.keeps tried.same_prices tried.risen
    c.next_gain-place.ensures.trials
