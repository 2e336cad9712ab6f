use Rattle.std.proofs.Common.{◌≡◌, ◌∙◌, sym, ap, subst, true, false}
use Rattle.std.proofs.lemmas.Bool.{false≢true}
use mir.Syntax.{w128}
use mir.Val.{to_z, of_z}
use Rattle.location_terms.specs.Instance.{Instance}
use Rattle.location_terms.specs.Bound.{Duals, bound_of}
use Rattle.location_terms.specs.Fit.{AreTame}
use Rattle.dual_value.specs.Scales.{IsAtLeast}
use Rattle.dual_value.specs.Zeros.{zeros}
use Rattle.dual_adjust.specs.Adjusted.{IsRiseAbove}
use Rattle.dual_adjust.specs.Present.{Present, IsStart}
use Rattle.tree_search.specs.Made.{IsMadeScale, plain_scale}
use Rattle.tree_search.specs.Making.{Making, StaysMaking}
use Rattle.tree_search.specs.Stored.{making_of, AreAlike}
use Rattle.tree_search.specs.declared.leaf_maker.LeafMaker.TheInside.{Inside}
use Rattle.tree_search.proofs.Leaves.{small_bits, bound_bits, scale_fits_in, has_plain, zeros_below, stays_from, alike_best, risen_more, kept_taken, ascent_at_least}
use Rattle.tree_search.proofs.Going.{stays_same}
use Rattle.tree_search.proofs.leaf_maker.LeafMaker.take.Goals as goal

pub returns-then-are_same-clause-taken : goal.returns-then-are_same-clause-taken
returns-then-are_same-clause-taken c = λ form tame scale.
    let making = c.requires.making in
    zeros_below c.args.boxed.now.instance c.args.boxed.now.path c.args.self.now making.0 making.1 c.args.duals.now making.2 (c.are_same.ensures c.if-are_same.true ∙ ap (λ (m : Making). m.zeros) c.self.view_is)

pub is_usable-requires-clause-plain : goal.is_usable-requires-clause-plain
is_usable-requires-clause-plain c = c.q.ensures ∙ ap (λ (m : Making). m.zeros.q) c.self.view_is ∙ ap (λ (d : Duals). d.q) c.requires.making.2.maker ∙ ap plain_scale (sym c.instance.ensures)

pub returns-then-not-is_usable-clause-taken : goal.returns-then-not-is_usable-clause-taken
returns-then-not-is_usable-clause-taken c = λ form tame scale.
    let d = c.args.duals.now in
    let tame_there : AreTame c.instance.result.now d = subst (λ (J : Instance). AreTame J d) (sym c.instance.ensures) tame in
    let scale_there : IsMadeScale c.instance.result.now d.q = subst (λ (J : Instance). IsMadeScale J d.q) (sym c.instance.ensures) scale in
    absurd (false≢true (sym c.if-not-is_usable.true ∙ c.is_usable.ensures.1 (form, tame_there, scale_there)))

pub rises_from-requires-clause-present : goal.rises_from-requires-clause-present
rises_from-requires-clause-present c =
    let risen = c.requires.making.2.best_risen in
    subst (λ (m : Making). IsStart c.args.boxed.now.instance m.best) (sym c.self.view_is) (record { tame = risen.tame; work = risen.work })

pub rises_from-requires-clause-start : goal.rises_from-requires-clause-start
rises_from-requires-clause-start c = subst (λ (J : Instance). AreTame J c.args.duals.now) c.instance.ensures (c.is_usable.ensures.0 c.if-not-is_usable.false).1

pub rises_from-requires-clause-small : goal.rises_from-requires-clause-small
rises_from-requires-clause-small c = small_bits c.self.inside.bound c.self.invariant.bound

pub rises_from-requires-clause-scaled : goal.rises_from-requires-clause-scaled
rises_from-requires-clause-scaled c = (scale_fits_in c.self.inside c.args.self.now c.q-scale.result c.duals.result.now c.self.invariant c.self.view_is c.q-scale.ensures c.duals.ensures).0

pub rises_from-requires-clause-scale : goal.rises_from-requires-clause-scale
rises_from-requires-clause-scale c = (scale_fits_in c.self.inside c.args.self.now c.q-scale.result c.duals.result.now c.self.invariant c.self.view_is c.q-scale.ensures c.duals.ensures).1

pub returns-then-not-rises_from-clause-stays : goal.returns-then-not-rises_from-clause-stays
returns-then-not-rises_from-clause-stays c =
    let I = c.args.boxed.now.instance in
    let path = c.args.boxed.now.path in
    let a = c.self.inside in
    let e = c.rises_from.new.self in
    let rise : IsRiseAbove I path c.args.duals.now a.best e (to_z w128 (of_z w128 a.bound)) c.q-scale.result false = subst (IsRiseAbove I path c.args.duals.now a.best e (to_z w128 (of_z w128 a.bound)) c.q-scale.result) c.if-not-rises_from.true c.rises_from.ensures in
    let same : making_of (let b : Inside = record a { best = e } in b) ≡ c.args.self.now = ap (λ (p : Present). making_of (let b : Inside = record a { best = p } in b)) rise.0 ∙ c.self.view_is in
    subst (StaysMaking I path c.args.self.now) (sym same) (stays_same I path c.args.self.now)

pub returns-then-not-rises_from-clause-taken : goal.returns-then-not-rises_from-clause-taken
returns-then-not-rises_from-clause-taken c = λ form tame scale.
    let I = c.args.boxed.now.instance in
    let path = c.args.boxed.now.path in
    let a = c.self.inside in
    let d = c.args.duals.now in
    let m = c.args.self.now in
    let e = c.rises_from.new.self in
    let x = to_z w128 (of_z w128 a.bound) in
    let rise : IsRiseAbove I path d a.best e x c.q-scale.result false = subst (IsRiseAbove I path d a.best e x c.q-scale.result) c.if-not-rises_from.true c.rises_from.ensures in
    let is_bound : x ≡ bound_of I path m.best.duals = bound_bits a.bound c.self.invariant.bound ∙ ap (λ (n : Making). n.bound) c.self.view_is ∙ c.requires.making.2.bound in
    let is_scale : c.q-scale.result ≡ m.best.duals.q = c.q-scale.ensures ∙ ap (λ (n : Duals). n.q) c.duals.ensures in
    let same : e ≡ m.best = rise.0 ∙ ap (λ (n : Making). n.best) c.self.view_is in
    subst (λ (p : Present). IsAtLeast (bound_of I path p.duals) p.duals.q (bound_of I path d) d.q) (sym same) (kept_taken I path m d a.best e x c.q-scale.result is_bound is_scale rise tame.scaled)

pub invariant_of-self : goal.invariant_of-self
invariant_of-self c =
    let I = c.args.boxed.now.instance in
    let a = c.self.inside in
    let e = c.rises_from.new.self in
    let rise : IsRiseAbove I c.args.boxed.now.path c.args.duals.now a.best e (to_z w128 (of_z w128 a.bound)) c.q-scale.result false = subst (IsRiseAbove I c.args.boxed.now.path c.args.duals.now a.best e (to_z w128 (of_z w128 a.bound)) c.q-scale.result) c.if-not-rises_from.true c.rises_from.ensures in
    subst (λ (p : Present). AreAlike (let b : Inside = record a { best = p } in b)) (sym rise.0) c.self.invariant

pub invariant_of-self-2 : goal.invariant_of-self-2
invariant_of-self-2 c =
    let I = c.args.boxed.now.instance in
    let path = c.args.boxed.now.path in
    let a = c.self.inside in
    let e = c.rises_from.new.self in
    let x = to_z w128 (of_z w128 a.bound) in
    let rise : IsRiseAbove I path c.args.duals.now a.best e x c.q-scale.result true = subst (IsRiseAbove I path c.args.duals.now a.best e x c.q-scale.result) c.if-not-rises_from.false c.rises_from.ensures in
    let zero : a.zeros ≡ zeros I (plain_scale I) = ap (λ (m : Making). m.zeros) c.self.view_is ∙ c.requires.making.2.maker in
    alike_best I path a e (to_z w128 (of_z w128 c.bound-self-inside.result)) c.self.invariant zero rise.0 (small_bits c.bound-self-inside.result c.bound-self-inside.ensures.small)

pub returns-clause-taken : goal.returns-clause-taken
returns-clause-taken c = λ form tame scale.
    let I = c.args.boxed.now.instance in
    let path = c.args.boxed.now.path in
    let a = c.self.inside in
    let d = c.args.duals.now in
    let e = c.rises_from.new.self in
    let x = to_z w128 (of_z w128 a.bound) in
    let rise : IsRiseAbove I path d a.best e x c.q-scale.result true = subst (IsRiseAbove I path d a.best e x c.q-scale.result) c.if-not-rises_from.false c.rises_from.ensures in
    ascent_at_least I path d e.duals rise.1

pub returns-clause-stays : goal.returns-clause-stays
returns-clause-stays c =
    let I = c.args.boxed.now.instance in
    let path = c.args.boxed.now.path in
    let a = c.self.inside in
    let d = c.args.duals.now in
    let m = c.args.self.now in
    let e = c.rises_from.new.self in
    let x = to_z w128 (of_z w128 a.bound) in
    let b : Inside = record a { best = e; bound = to_z w128 (of_z w128 c.bound-self-inside.result) } in
    let rise : IsRiseAbove I path d a.best e x c.q-scale.result true = subst (IsRiseAbove I path d a.best e x c.q-scale.result) c.if-not-rises_from.false c.rises_from.ensures in
    let is_bound : x ≡ bound_of I path m.best.duals = bound_bits a.bound c.self.invariant.bound ∙ ap (λ (n : Making). n.bound) c.self.view_is ∙ c.requires.making.2.bound in
    let is_scale : c.q-scale.result ≡ m.best.duals.q = c.q-scale.ensures ∙ ap (λ (n : Duals). n.q) c.duals.ensures in
    let usable : IsMadeScale I d.q = subst (λ (J : Instance). IsMadeScale J d.q) c.instance.ensures (c.is_usable.ensures.0 c.if-not-is_usable.false).2 in
    let scale : IsMadeScale I e.duals.q = subst (IsMadeScale I) (sym rise.1.scale) usable in
    stays_from I path m (making_of b) (has_plain a m c.self.view_is) rise.0 (rise.1.form ∙ (c.is_usable.ensures.0 c.if-not-is_usable.false).0) scale (bound_bits c.bound-self-inside.result c.bound-self-inside.ensures.small ∙ c.bound-self-inside.ensures.exact) (risen_more I path m d a.best e x c.q-scale.result is_bound is_scale rise)
