use Rattle.std.proofs.Common.{sym, subst, ◌∙◌}
use Rattle.location_terms.specs.Bound.{Duals}
use Rattle.dual_value.specs.Slacks.{AreSlacks}
use Rattle.dual_ascent.specs.Ascent.{raised}
use Rattle.dual_ascent.specs.Steps.{AreBlockers}
use Rattle.dual_ascent.proofs.Blockers.{blockers_stay, turn_rises, rise_fits, set_is_raised}
use Rattle.dual_ascent.proofs.climbing.turn.Goals as goal

pub overflow_add-v : goal.overflow_add-v
overflow_add-v c = rise_fits c.args.boxed.now.instance c.args.boxed.now.path c.requires.valid c.args.duals.now c.requires.tame c.args.cust c.requires.customer c.in-Rises.ensures.0 c.in-Rises.by c.v.result c.in-Rises.ensures.1 c.v.ensures

pub returns-in-Rises-clause-exact : goal.returns-in-Rises-clause-exact
returns-in-Rises-clause-exact c = c.set_v.ensures ∙ set_is_raised c.args.boxed.now.instance c.args.boxed.now.path c.requires.valid c.args.duals.now c.requires.tame c.args.cust c.requires.customer c.in-Rises.ensures.0 c.in-Rises.by c.v.result c.in-Rises.ensures.1 c.v.ensures

pub returns-in-Rises-clause-slacks : goal.returns-in-Rises-clause-slacks
returns-in-Rises-clause-slacks c =
    let exact = c.set_v.ensures ∙ set_is_raised c.args.boxed.now.instance c.args.boxed.now.path c.requires.valid c.args.duals.now c.requires.tame c.args.cust c.requires.customer c.in-Rises.ensures.0 c.in-Rises.by c.v.result c.in-Rises.ensures.1 c.v.ensures in
    subst (λ (d : Duals). AreSlacks c.args.boxed.now.instance c.args.boxed.now.path d c.lower_slacks.new.slacks) (sym exact) c.lower_slacks.ensures

pub returns-in-Rises-clause-blockers : goal.returns-in-Rises-clause-blockers
returns-in-Rises-clause-blockers c =
    let I = c.args.boxed.now.instance in
    let path = c.args.boxed.now.path in
    let d : Duals = c.args.duals.now in
    let exact = c.set_v.ensures ∙ set_is_raised c.args.boxed.now.instance c.args.boxed.now.path c.requires.valid c.args.duals.now c.requires.tame c.args.cust c.requires.customer c.in-Rises.ensures.0 c.in-Rises.by c.v.result c.in-Rises.ensures.1 c.v.ensures in
    subst (λ (e : Duals). AreBlockers I path e c.args.blockers.now) (sym exact) (blockers_stay I path d (raised I path d c.args.cust) c.args.blockers.now (turn_rises c.args.boxed.now.instance c.args.boxed.now.path c.requires.valid c.args.duals.now c.requires.tame c.args.cust c.requires.customer) c.requires.blockers)
