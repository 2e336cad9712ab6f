use Rattle.std.proofs.Common.{◌≡◌, sym, subst, ◌∙◌, true}
use mir.Syntax.{w128}
use mir.Val.{to_z, of_z}
use Rattle.std.proofs.lemmas.Bool.{false≢true}
use Rattle.std.proofs.lemmas.Int.{to_z-of_z}
use Rattle.location_terms.specs.Bound.{Duals, bound_of}
use Rattle.location_terms.specs.Fit.{AreTame}
use Rattle.dual_value.specs.Scales.{IsGreater}
use Rattle.dual_ascent.specs.Ascent.{IsAscended}
use Rattle.dual_ascent.specs.Kept.{Keeps}
use Rattle.dual_adjust.specs.Present.{Present, IsStart, HasAscended}
use Rattle.dual_adjust.specs.Adjusted.{IsRiseAbove}
use Rattle.dual_adjust.specs.Stored.{AreAlike}
use Rattle.dual_adjust.specs.declared.trials.Ascended.{Ascended}
use Rattle.dual_adjust.proofs.Gained.{risen_from, alike_from}
use Rattle.dual_adjust.proofs.trials.Trials.rises_from.Goals as goal

pub copy_from-requires-clause-customers : goal.copy_from-requires-clause-customers
copy_from-requires-clause-customers c =
    let I = c.args.boxed.now.instance in
    let here : IsStart I (record { duals = c.self.inside.present.duals; work = c.self.inside.present.work }) = subst (IsStart I) (sym c.self.view_is) c.requires.present in
    c.requires.start.fit.of_instance.customers ∙ sym (c.self.invariant.customers ∙ here.tame.fit.of_instance.customers)

pub copy_from-requires-clause-sites : goal.copy_from-requires-clause-sites
copy_from-requires-clause-sites c =
    let I = c.args.boxed.now.instance in
    let here : IsStart I (record { duals = c.self.inside.present.duals; work = c.self.inside.present.work }) = subst (IsStart I) (sym c.self.view_is) c.requires.present in
    c.requires.start.fit.of_instance.sites ∙ sym (c.self.invariant.sites ∙ here.tame.fit.of_instance.sites)

pub is_better-requires-clause-ascended : goal.is_better-requires-clause-ascended
is_better-requires-clause-ascended c =
    let I = c.args.boxed.now.instance in
    let start : AreTame I c.copy_from.new.self = subst (AreTame I) (sym c.copy_from.ensures) c.requires.start in
    let e = c.ascend_in.ensures in
    risen_from I c.args.boxed.now.path c.copy_from.new.self (record { duals = c.ascend_in.new.duals; work = c.ascend_in.new.work }) start e.ascended e.keeps e.blocked e.slacks e.work

pub invariant_of-self : goal.invariant_of-self
invariant_of-self c =
    let I = c.args.boxed.now.instance in
    let here : IsStart I (record { duals = c.self.inside.present.duals; work = c.self.inside.present.work }) = subst (IsStart I) (sym c.self.view_is) c.requires.present in
    alike_from I c.args.boxed.now.path _ here.tame c.ascend_in.ensures.keeps.tame here.work c.ascend_in.ensures.work

pub returns-then-not-is_better : goal.returns-then-not-is_better
returns-then-not-is_better c =
    let I = c.args.boxed.now.instance in
    let path = c.args.boxed.now.path in
    let d = c.ascend_in.new.duals in
    let keeps : Keeps I path c.args.start.now d = subst (λ (x : Duals). Keeps I path x d) c.copy_from.ensures c.ascend_in.ensures.keeps in
    let bits : to_z w128 (of_z w128 c.args.bound) ≡ c.args.bound = to_z-of_z w128 c.args.bound c.ranges.bound in
    let ascended : IsAscended I path c.args.start.now d = subst (λ (x : Duals). IsAscended I path x d) c.copy_from.ensures c.ascend_in.ensures.ascended in
    (c.self.view_is, (d, keeps, (λ greater. absurd (false≢true (sym c.if-not-is_better.true ∙ c.is_better.ensures.1 (subst (λ b. IsGreater (bound_of I path d) d.q b c.args.scale) (sym bits) greater)))), ascended))

pub invariant_of-self-2 : goal.invariant_of-self-2
invariant_of-self-2 c =
    let I = c.args.boxed.now.instance in
    let P = c.self.inside.present in
    let T : Ascended = record { duals = c.ascend_in.new.duals; work = c.ascend_in.new.work } in
    let here : IsStart I (record { duals = P.duals; work = P.work }) = subst (IsStart I) (sym c.self.view_is) c.requires.present in
    let swapped : AreAlike (record { present = T; trial = P }) = alike_from I c.args.boxed.now.path (record { present = T; trial = P }) c.ascend_in.ensures.keeps.tame here.tame c.ascend_in.ensures.work here.work in
    subst (λ (x : Ascended). AreAlike (record { present = x; trial = c.swap.new.y })) (sym c.swap.ensures.x_after)
    (subst (λ (y : Ascended). AreAlike (record { present = T; trial = y })) (sym c.swap.ensures.y_after) swapped)

pub returns : goal.returns
returns c =
    let I = c.args.boxed.now.instance in
    let path = c.args.boxed.now.path in
    let start : AreTame I c.copy_from.new.self = subst (AreTame I) (sym c.copy_from.ensures) c.requires.start in
    let e = c.ascend_in.ensures in
    let d = c.ascend_in.new.duals in
    let found : Present = record { duals = d; work = c.ascend_in.new.work } in
    let risen : HasAscended I path found = risen_from I path c.copy_from.new.self found start e.ascended e.keeps e.blocked e.slacks e.work in
    let keeps : Keeps I path c.args.start.now d = subst (λ (x : Duals). Keeps I path x d) c.copy_from.ensures e.keeps in
    let bits : to_z w128 (of_z w128 c.args.bound) ≡ c.args.bound = to_z-of_z w128 c.args.bound c.ranges.bound in
    let greater : IsGreater (bound_of I path d) d.q c.args.bound c.args.scale = subst (λ b. IsGreater (bound_of I path d) d.q b c.args.scale) bits (c.is_better.ensures.0 c.if-not-is_better.false) in
    let rise : IsRiseAbove I path c.args.start.now c.args.self.now found c.args.bound c.args.scale true = (risen, keeps, greater, subst (λ (x : Duals). IsAscended I path x d) c.copy_from.ensures e.ascended) in
    subst (λ (x : Ascended). IsRiseAbove I path c.args.start.now c.args.self.now (record { duals = x.duals; work = x.work }) c.args.bound c.args.scale true) (sym c.swap.ensures.x_after) rise
