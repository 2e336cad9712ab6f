use Rattle.std.proofs.Common.{false, sym, subst, ◌∙◌, refl}
use mir.Syntax.{w128}
use Rattle.std.proofs.lemmas.Bool.{false≢true}
use Rattle.std.proofs.lemmas.Int.{to_z-of_z}
use Rattle.dual_adjust.specs.Present.{Present}
use Rattle.dual_adjust.specs.Adjusted.{IsTried, IsTrial, HasGained}
use Rattle.dual_adjust.specs.Stored.{AreAlike, present_of}
use Rattle.dual_adjust.specs.declared.trials.Ascended.{Ascended}
use Rattle.dual_adjust.proofs.Gained.{alike_from, has_ascended, fallen_tame, tried_from, trial_fails, trial_gains}
use Rattle.dual_adjust.proofs.trials.Trials.gains_by.Goals as goal

pub returns-in_default-clause-trial : goal.returns-in_default-clause-trial
returns-in_default-clause-trial c =
    let I = c.args.boxed.now.instance in
    let path = c.args.boxed.now.path in
    let j = c.args.cust in
    let d = c.self.inside.present.duals in
    let trial : IsTrial I path d d j false = (refl, λ violating. absurd (false≢true (sym c.in_default.ensures ∙ violating))) in
    subst (λ (p : Present). IsTrial I path p.duals p.duals j false) c.self.view_is trial

pub rise_again-requires-clause-tame : goal.rise_again-requires-clause-tame
rise_again-requires-clause-tame c = fallen_tame c.args.boxed.now.instance c.args.boxed.now.path c.args.self.now (present_of c.self.inside) c.self.view_is c.requires.risen c.requires.valid c.args.cust c.requires.customer c.in-Some.ensures.0 c.in-Some.level c.in-Some.ensures.1 c.copy_from.new.self c.set_v.new.self c.copy_from.ensures c.set_v.ensures

pub invariant_of-self : goal.invariant_of-self
invariant_of-self c =
    let risen = has_ascended c.args.boxed.now.instance c.args.boxed.now.path c.args.self.now (present_of c.self.inside) c.self.view_is c.requires.risen in
    alike_from c.args.boxed.now.instance c.args.boxed.now.path _ risen.tame c.rise_again.ensures.risen.tame risen.work c.rise_again.ensures.risen.work

pub returns-then-not-is_above-clause-tried : goal.returns-then-not-is_above-clause-tried
returns-then-not-is_above-clause-tried c =
    let here = present_of c.self.inside in
    let risen = has_ascended c.args.boxed.now.instance c.args.boxed.now.path c.args.self.now (present_of c.self.inside) c.self.view_is c.requires.risen in
    subst (λ (p : Present). IsTried c.args.boxed.now.instance c.args.boxed.now.path p here) c.self.view_is (record { same_prices = record { form = refl; scale = refl; count_price = refl; prices = refl }; risen = risen })

pub returns-then-not-is_above-clause-trial : goal.returns-then-not-is_above-clause-trial
returns-then-not-is_above-clause-trial c =
    let new : Present = record { duals = c.rise_again.new.lowered.duals; work = c.rise_again.new.lowered.work } in
    trial_fails c.args.boxed.now.instance c.args.boxed.now.path c.args.self.now (present_of c.self.inside) c.self.view_is c.requires.risen c.requires.valid c.args.cust c.requires.customer c.in-Some.ensures.0 c.in-Some.level c.in-Some.ensures.1 c.copy_from.new.self c.set_v.new.self c.copy_from.ensures c.set_v.ensures new c.rise_again.ensures.found c.args.bound (to_z-of_z w128 c.args.bound c.ranges.bound) c.requires.bound (sym c.is_above.ensures ∙ c.if-not-is_above.true)

pub invariant_of-self-2 : goal.invariant_of-self-2
invariant_of-self-2 c =
    let risen = has_ascended c.args.boxed.now.instance c.args.boxed.now.path c.args.self.now (present_of c.self.inside) c.self.view_is c.requires.risen in
    let P = c.self.inside.present in
    let T = c.rise_again.new.lowered in
    let swapped : AreAlike (record { present = T; trial = P }) = alike_from c.args.boxed.now.instance c.args.boxed.now.path (record { present = T; trial = P }) c.rise_again.ensures.risen.tame risen.tame c.rise_again.ensures.risen.work risen.work in
    subst (λ (x : Ascended). AreAlike (record { present = x; trial = c.swap.new.y })) (sym c.swap.ensures.x_after)
    (subst (λ (y : Ascended). AreAlike (record { present = T; trial = y })) (sym c.swap.ensures.y_after) swapped)

pub returns-clause-tried : goal.returns-clause-tried
returns-clause-tried c =
    let new : Present = record { duals = c.rise_again.new.lowered.duals; work = c.rise_again.new.lowered.work } in
    let tried = tried_from c.args.boxed.now.instance c.args.boxed.now.path c.args.self.now (present_of c.self.inside) c.self.view_is c.requires.risen c.requires.valid c.args.cust c.requires.customer c.in-Some.ensures.0 c.in-Some.level c.in-Some.ensures.1 c.copy_from.new.self c.set_v.new.self c.copy_from.ensures c.set_v.ensures new c.rise_again.ensures.found c.rise_again.ensures.risen in
    subst (λ (x : Ascended). IsTried c.args.boxed.now.instance c.args.boxed.now.path c.args.self.now (record { duals = x.duals; work = x.work })) (sym c.swap.ensures.x_after) tried

pub returns-clause-trial : goal.returns-clause-trial
returns-clause-trial c =
    let new : Present = record { duals = c.rise_again.new.lowered.duals; work = c.rise_again.new.lowered.work } in
    let gained = trial_gains c.args.boxed.now.instance c.args.boxed.now.path c.args.self.now (present_of c.self.inside) c.self.view_is c.requires.risen c.requires.valid c.args.cust c.requires.customer c.in-Some.ensures.0 c.in-Some.level c.in-Some.ensures.1 c.copy_from.new.self c.set_v.new.self c.copy_from.ensures c.set_v.ensures new c.rise_again.ensures.found c.args.bound (to_z-of_z w128 c.args.bound c.ranges.bound) c.requires.bound (sym c.is_above.ensures ∙ c.if-not-is_above.false) in
    subst (λ (x : Ascended). HasGained c.args.boxed.now.instance c.args.boxed.now.path c.args.self.now.duals x.duals) (sym c.swap.ensures.x_after) gained
