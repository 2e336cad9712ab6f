use Rattle.std.proofs.Common.{ℕ, ◌<◌, inl, inr, sym, subst, ◌∙◌, arith, length, ◌<ℤ◌}
use Rattle.std.proofs.lemmas.Bool.{lt-ltb, le-ltb}
use Rattle.std.proofs.lemmas.Int.{ints}
use Rattle.location_terms.specs.Bound.{Duals, bound_of}
use Rattle.dual_adjust.specs.Adjusted.{IsRound, GainsNothing}
use Rattle.dual_adjust.proofs.Lowered.{no_gain}
use Rattle.dual_adjust.proofs.Gained.{tried_again}
use Rattle.dual_adjust.proofs.adjusting.round.Goals as goal

pub loop-next-preserved : goal.loop-next-preserved
loop-next-preserved c =
    let I = c.args.boxed.now.instance in
    let path = c.args.boxed.now.path in
    let before = c.loop-next.invariant in
    let trials = c.in-Some.ensures.trials in
    let more = trials.0 in
    let greater = trials.2.greater in
    let bound = bound_of I path in
    let rose : bound c.args.trials.now.duals <ℤ bound c.next_gain.new.trials.duals =
    elim before.so_far [
      | inl first ↦ subst (λ (e : Duals). bound e <ℤ bound c.next_gain.new.trials.duals) first.1 greater
      | inr later ↦ let so_far = later.1 in omega (arith, ints, greater, so_far)
    ] in
    record { tried = tried_again I path _ _ _ before.tried c.next_gain.ensures.tried; within = trials.1; so_far = inr (omega (arith, more), rose) }

pub returns-clause-round : goal.returns-clause-round
returns-clause-round c =
    let I = c.args.boxed.now.instance in
    let path = c.args.boxed.now.path in
    let d = c.args.trials.now.duals in
    let e = c.next_gain.new.trials.duals in
    let trials = c.in_default.ensures.trials in
    let bound = bound_of I path in
    elim c.loop-next.invariant.so_far [
      | inl first ↦
          let nothing : (j : ℕ) → j < length I.customers → GainsNothing I path d j = λ j b. subst (λ (f : Duals). GainsNothing I path f j) first.1 (trials.1 j (let zero = first.0 in omega (arith, zero)) b) in
          let same = first.0 in
          subst (IsRound I path d e) (sym (le-ltb 0 c.loop-next.from (omega (arith, same)))) (trials.0 ∙ first.1, no_gain I path d nothing)
      | inr later ↦ subst (IsRound I path d e) (sym (lt-ltb 0 c.loop-next.from later.0)) (subst (λ (f : Duals). bound d <ℤ bound f) (sym trials.0) later.1)
    ]
