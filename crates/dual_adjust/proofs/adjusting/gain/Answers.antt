use Rattle.std.proofs.Common.{◌∙◌, sym, subst}
use Rattle.location_terms.specs.Bound.{Duals}
use Rattle.dual_adjust.specs.Adjusted.{IsGain}
use Rattle.dual_adjust.proofs.Gained.{no_first_gain, first_gain}
use Rattle.dual_adjust.proofs.adjusting.gain.Goals as goal

pub returns-in-None : goal.returns-in-None
returns-in-None c =
    no_first_gain c.args.inst.now c.args.path.now c.in_ok-boxed.boxed c.in_ok-boxed.ensures c.args.ascended.now c.in_ok-trials.trials.duals (c.in_ok-trials.ensures.duals ∙ c.in_ok-copied.ensures) c.requires.ascended c.ascend.new.self c.ascend.ensures.ascended
    c.next_gain.new.trials.duals c.in-None.ensures.trials

pub returns : goal.returns
returns c =
    let I = c.args.inst.now in
    let path = c.args.path.now in
    let d = c.args.ascended.now in
    let first =
    first_gain I path c.in_ok-boxed.boxed c.in_ok-boxed.ensures d c.in_ok-trials.trials.duals (c.in_ok-trials.ensures.duals ∙ c.in_ok-copied.ensures) c.requires.ascended c.ascend.new.self c.ascend.ensures.ascended
    c.next_gain.new.trials c.in-Some.field-0 c.next_gain.ensures.tried c.in-Some.ensures.trials in
    subst (λ (e : Duals). IsGain I path d e) (sym c.into_duals.ensures) first
