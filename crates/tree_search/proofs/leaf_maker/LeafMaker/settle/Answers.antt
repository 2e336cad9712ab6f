use Rattle.std.proofs.Common.{◌≡◌, ◌∙◌, sym, ap, subst}
use Rattle.std.proofs.lemmas.Bool.{both_ways}
use mir.Syntax.{w128}
use mir.Val.{to_z, of_z}
use Rattle.location_terms.specs.Bound.{Duals, bound_of}
use Rattle.dual_value.specs.Scales.{IsGreater}
use Rattle.dual_value.specs.Zeros.{zeros}
use Rattle.dual_adjust.specs.Adjusted.{IsAdjusted}
use Rattle.tree_search.specs.Made.{plain_scale}
use Rattle.tree_search.specs.Making.{Making}
use Rattle.tree_search.specs.Stored.{making_of}
use Rattle.tree_search.specs.declared.leaf_maker.LeafMaker.TheInside.{Inside}
use Rattle.tree_search.proofs.Leaves.{small_bits, bound_bits, has_plain, copy_starts, alike_best, settled_stays, settled_made, made_from, told_of}
use Rattle.tree_search.proofs.leaf_maker.LeafMaker.settle.Goals as goal

pub returns-then-is_greater-clause-made : goal.returns-then-is_greater-clause-made
returns-then-is_greater-clause-made c = λ old_path old served making.
    let I = c.args.boxed.now.instance in
    let path = c.args.boxed.now.path in
    let m = c.args.self.now in
    let greater : IsGreater (bound_of I path m.best.duals) m.best.duals.q (bound_of I path m.plain) m.plain.q =
    told_of IsGreater _ _ _ _ _ _ _ _ (bound_bits c.self.inside.bound c.self.invariant.bound ∙ ap (λ (x : Making). x.bound) c.self.view_is ∙ making.bound) (c.q.ensures ∙ ap (λ (x : Duals). x.q) c.duals.ensures) (bound_bits c.self.inside.plain_bound c.self.invariant.plain_bound ∙ ap (λ (x : Making). x.plain_bound) c.self.view_is ∙ making.plain_bound) (c.q-2.ensures ∙ ap (λ (x : Making). x.plain.q) c.self.view_is)
    (c.is_greater.ensures.0 c.if-is_greater.true) in
    made_from I path old_path old m served making (λ gains. greater)

pub adjust_once-requires-clause-start : goal.adjust_once-requires-clause-start
adjust_once-requires-clause-start c =
    let I = c.args.boxed.now.instance in
    let making = c.requires.making.2 in
    let zero : c.self.inside.zeros ≡ zeros I (plain_scale I) = ap (λ (m : Making). m.zeros) c.self.view_is ∙ making.maker in
    copy_starts I c.args.boxed.now.path c.self.inside c.copy_from.new.self c.args.self.now.plain c.self.invariant zero (c.copy_from.ensures.duals ∙ ap (λ (x : Making). x.plain) c.self.view_is) c.copy_from.ensures.work making.plain_tame

pub invariant_of-self : goal.invariant_of-self
invariant_of-self c =
    let I = c.args.boxed.now.instance in
    let zero : c.self.inside.zeros ≡ zeros I (plain_scale I) = ap (λ (m : Making). m.zeros) c.self.view_is ∙ c.requires.making.2.maker in
    alike_best I c.args.boxed.now.path c.self.inside c.adjust_once.new.trials (to_z w128 (of_z w128 c.bound-self-inside.result)) c.self.invariant zero c.adjust_once.ensures.risen (small_bits c.bound-self-inside.result c.bound-self-inside.ensures.small)

pub returns-clause-stays : goal.returns-clause-stays
returns-clause-stays c =
    let I = c.args.boxed.now.instance in
    let path = c.args.boxed.now.path in
    let a = c.self.inside in
    let m = c.args.self.now in
    let first = c.requires.making in
    let e = c.adjust_once.new.trials in
    let b : Inside = record a { best = e; bound = to_z w128 (of_z w128 c.bound-self-inside.result) } in
    let is : c.copy_from.new.self.duals ≡ m.plain = c.copy_from.ensures.duals ∙ ap (λ (x : Making). x.plain) c.self.view_is in
    let adjusted : IsAdjusted I path 1 m.plain e.duals = subst (λ (d : Duals). IsAdjusted I path 1 d e.duals) is c.adjust_once.ensures.adjusted in
    settled_stays I path m (making_of b) first.0 first.1 first.2 (has_plain a m c.self.view_is) (bound_bits c.bound-self-inside.result c.bound-self-inside.ensures.small ∙ c.bound-self-inside.ensures.exact) adjusted c.adjust_once.ensures.risen
    (λ more. both_ways _ c.if-is_greater.false (c.is_greater.ensures.1 (told_of IsGreater _ _ _ _ _ _ _ _ (sym (bound_bits a.bound c.self.invariant.bound ∙ ap (λ (x : Making). x.bound) c.self.view_is)) (sym (c.q.ensures ∙ ap (λ (x : Duals). x.q) c.duals.ensures)) (sym (bound_bits a.plain_bound c.self.invariant.plain_bound ∙ ap (λ (x : Making). x.plain_bound) c.self.view_is)) (sym (c.q-2.ensures ∙ ap (λ (x : Making). x.plain.q) c.self.view_is)) more)))

pub returns-clause-made : goal.returns-clause-made
returns-clause-made c = λ old_path old served making.
    let I = c.args.boxed.now.instance in
    let path = c.args.boxed.now.path in
    let a = c.self.inside in
    let m = c.args.self.now in
    let e = c.adjust_once.new.trials in
    let b : Inside = record a { best = e; bound = to_z w128 (of_z w128 c.bound-self-inside.result) } in
    let is : c.copy_from.new.self.duals ≡ m.plain = c.copy_from.ensures.duals ∙ ap (λ (x : Making). x.plain) c.self.view_is in
    let adjusted : IsAdjusted I path 1 m.plain e.duals = subst (λ (d : Duals). IsAdjusted I path 1 d e.duals) is c.adjust_once.ensures.adjusted in
    settled_made I path m (making_of b) old_path old making (has_plain a m c.self.view_is) (bound_bits c.bound-self-inside.result c.bound-self-inside.ensures.small ∙ c.bound-self-inside.ensures.exact) adjusted c.adjust_once.ensures.risen
    (λ more. both_ways _ c.if-is_greater.false (c.is_greater.ensures.1 (told_of IsGreater _ _ _ _ _ _ _ _ (sym (bound_bits a.bound c.self.invariant.bound ∙ ap (λ (x : Making). x.bound) c.self.view_is)) (sym (c.q.ensures ∙ ap (λ (x : Duals). x.q) c.duals.ensures)) (sym (bound_bits a.plain_bound c.self.invariant.plain_bound ∙ ap (λ (x : Making). x.plain_bound) c.self.view_is)) (sym (c.q-2.ensures ∙ ap (λ (x : Making). x.plain.q) c.self.view_is)) more))) served
