use Rattle.std.proofs.Common.{◌≡◌, ◌≤◌, inl, inr, subst, sym, ap, arith, ◌≤ℤ◌, ◌<ℤ◌}
use Rattle.std.proofs.lemmas.Int.{ints}
use Rattle.location_terms.specs.Bound.{Duals, bound_of}
use Rattle.dual_adjust.specs.Adjustment.{Gains}
use Rattle.dual_adjust.proofs.Gained.{tried_again, adjusted_from}
use Rattle.dual_adjust.proofs.adjusting.adjust_in.Goals as goal

pub loop-round-preserved : goal.loop-round-preserved
loop-round-preserved c =
    let I = c.args.boxed.now.instance in
    let path = c.args.boxed.now.path in
    let bound = bound_of I path in
    let before = c.loop-round.invariant in
    let greater = c.if-not-round.ensures.round in
    let rose : bound c.ascend.new.self.duals <ℤ bound c.round.new.trials.duals =
    elim before.so_far [
      | inl first ↦ subst (λ (e : Duals). bound e <ℤ bound c.round.new.trials.duals) first.1 greater
      | inr later ↦ omega (arith, ints, greater, later)
    ] in
    record { tried = tried_again I path _ _ _ before.tried c.round.ensures.tried; so_far = inr rose }

pub returns-then-not-round-clause-adjusted : goal.returns-then-not-round-clause-adjusted
returns-then-not-round-clause-adjusted c =
    let I = c.args.boxed.now.instance in
    let path = c.args.boxed.now.path in
    let bound = bound_of I path in
    let a = c.ascend.new.self.duals in
    let e = c.round.new.trials.duals in
    let last = c.if-not-round.ensures.round in
    let tried = tried_again I path _ _ _ c.loop-round.invariant.tried c.round.ensures.tried in
    let same : bound e ≡ bound c.loop-round.trials.duals = ap bound last.0 in
    let no_lower : bound a ≤ℤ bound e =
    elim c.loop-round.invariant.so_far [
      | inl first ↦ omega (arith, ints, same, ap bound first.1)
      | inr later ↦ omega (arith, ints, same, later)
    ] in
    let gains : 1 ≤ c.args.rounds → Gains I path a → bound a <ℤ bound e = λ some gain.
    elim c.loop-round.invariant.so_far [
      | inl first ↦ absurd (last.1 (subst (Gains I path) (sym first.1) gain))
      | inr later ↦ omega (arith, ints, same, later)
    ] in
    adjusted_from I path c.args.rounds c.args.trials.now.duals a _ c.ascend.ensures.ascended c.ascend.ensures.keeps tried.same_prices tried.risen no_lower gains

pub returns-clause-adjusted : goal.returns-clause-adjusted
returns-clause-adjusted c =
    let I = c.args.boxed.now.instance in
    let path = c.args.boxed.now.path in
    let bound = bound_of I path in
    let a = c.ascend.new.self.duals in
    let e = c.loop-round.trials.duals in
    let tried = c.loop-round.invariant.tried in
    let no_lower : bound a ≤ℤ bound e =
    elim c.loop-round.invariant.so_far [
      | inl first ↦ omega (arith, ints, ap bound first.1)
      | inr later ↦ omega (arith, ints, later)
    ] in
    let gains : 1 ≤ c.args.rounds → Gains I path a → bound a <ℤ bound e = λ some gain.
    elim c.loop-round.invariant.so_far [
      | inl first ↦ let none = first.0 in let end = c.loop-round-test.false in absurd (omega (arith, none, end, some))
      | inr later ↦ later
    ] in
    adjusted_from I path c.args.rounds c.args.trials.now.duals a _ c.ascend.ensures.ascended c.ascend.ensures.keeps tried.same_prices tried.risen no_lower gains
