use Rattle.std.proofs.Common.{◌≡◌, ◌∙◌, refl, ap, subst}
use mir.Syntax.{w128}
use mir.Val.{to_z, of_z}
use Rattle.location_terms.specs.Bound.{Duals}
use Rattle.dual_value.specs.Zeros.{zeros}
use Rattle.dual_ascent.specs.Ascent.{IsAscended}
use Rattle.tree_search.specs.Made.{IsPlainAscent, plain_scale}
use Rattle.tree_search.specs.Making.{Making}
use Rattle.tree_search.specs.Stored.{making_of}
use Rattle.tree_search.specs.declared.leaf_maker.LeafMaker.TheInside.{Inside}
use Rattle.tree_search.proofs.Leaves.{bound_bits, small_bits, zeros_start, alike_plain, begun}
use Rattle.tree_search.proofs.leaf_maker.LeafMaker.begin.Goals as goal

pub ascend-requires-clause-start : goal.ascend-requires-clause-start
ascend-requires-clause-start c =
    let I = c.args.boxed.now.instance in
    let zero : c.self.inside.zeros ≡ zeros I (plain_scale I) = ap (λ (m : Making). m.zeros) c.self.view_is ∙ c.requires.maker in
    zeros_start I c.args.boxed.now.path c.self.inside c.copy_from.new.self c.self.invariant zero c.copy_from.ensures.duals c.copy_from.ensures.work

pub invariant_of-self : goal.invariant_of-self
invariant_of-self c =
    let I = c.args.boxed.now.instance in
    let a = c.self.inside in
    let e = c.ascend.new.self in
    let x = to_z w128 (of_z w128 c.bound-bound.result) in
    let zero : a.zeros ≡ zeros I (plain_scale I) = ap (λ (m : Making). m.zeros) c.self.view_is ∙ c.requires.maker in
    let b : Inside = record { zeros = a.zeros; plain = c.copy_from-2.new.self; plain_bound = x; hint = a.hint; best = e; bound = x } in
    alike_plain I c.args.boxed.now.path a b e x c.self.invariant zero c.ascend.ensures.risen (small_bits c.bound-bound.result c.bound-bound.ensures.small) refl (c.copy_from-2.ensures ∙ c.duals.ensures) refl refl refl

pub invariant_of-self-2 : goal.invariant_of-self-2
invariant_of-self-2 c =
    let I = c.args.boxed.now.instance in
    let a = c.self.inside in
    let e = c.ascend.new.self in
    let x = to_z w128 (of_z w128 c.bound-bound.result) in
    let zero : a.zeros ≡ zeros I (plain_scale I) = ap (λ (m : Making). m.zeros) c.self.view_is ∙ c.requires.maker in
    let b : Inside = record { zeros = a.zeros; plain = c.copy_from-2.new.self; plain_bound = x; hint = c.in_ok-hint.hint; best = e; bound = x } in
    alike_plain I c.args.boxed.now.path a b e x c.self.invariant zero c.ascend.ensures.risen (small_bits c.bound-bound.result c.bound-bound.ensures.small) refl (c.copy_from-2.ensures ∙ c.duals.ensures) refl refl refl

pub returns-clause-making : goal.returns-clause-making
returns-clause-making c =
    let I = c.args.boxed.now.instance in
    let path = c.args.boxed.now.path in
    let a = c.self.inside in
    let e = c.ascend.new.self in
    let x = to_z w128 (of_z w128 c.bound-bound.result) in
    let exact = bound_bits c.bound-bound.result c.bound-bound.ensures.small ∙ c.bound-bound.ensures.exact in
    let zero : a.zeros ≡ zeros I (plain_scale I) = ap (λ (m : Making). m.zeros) c.self.view_is ∙ c.requires.maker in
    let b : Inside = record { zeros = a.zeros; plain = c.copy_from-2.new.self; plain_bound = x; hint = c.in_ok-hint.hint; best = e; bound = x } in
    let from : c.copy_from.new.self.duals ≡ zeros I (plain_scale I) = c.copy_from.ensures.duals ∙ zero in
    let ascent : IsPlainAscent I path e.duals = subst (λ (s : Duals). IsAscended I path s e.duals) from c.ascend.ensures.ascended in
    begun I path (making_of b) zero (c.copy_from-2.ensures ∙ c.duals.ensures) exact c.in_ok-hint.ensures exact c.ascend.ensures.risen ascent
