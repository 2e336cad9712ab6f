use Rattle.std.proofs.Common.{◌≡◌, inl, inr, subst, ◌∙◌, arith}
use Rattle.std.proofs.lemmas.Bool.{cases_lt}
use Rattle.location_terms.specs.Bound.{Duals}
use Rattle.dual_adjust.specs.Adjusted.{GainsNothing}
use Rattle.dual_adjust.proofs.adjusting.next_gain.Goals as goal

pub loop-cust-preserved : goal.loop-cust-preserved
loop-cust-preserved c =
    let I = c.args.boxed.now.instance in
    let path = c.args.boxed.now.path in
    let d = c.args.trials.now.duals in
    let before = c.loop-cust.invariant in
    let trial = c.if-gains_by.ensures.trial in
    let here : GainsNothing I path d c.loop-cust.cust = subst (λ (e : Duals). GainsNothing I path e c.loop-cust.cust) before.same trial.1 in
    record {
      risen = c.gains_by.ensures.tried.risen;
      same = trial.0 ∙ before.same;
      nothing = λ j low b. elim (cases_lt j c.loop-cust.cust) [
        | inl earlier ↦ before.nothing j low earlier
        | inr later ↦ let same : c.loop-cust.cust ≡ j = omega (arith, later, b) in subst (GainsNothing I path d) same here
      ];
    }
