use Rattle.std.proofs.Common.{◌≡◌, ◌<◌, ℕ, ℤ, List, Option, true, false, Bool, cond, length, sym, ap, subst, ◌∙◌, arith}
use Rattle.std.specs.Prelude.{◌||◌}
use Rattle.location_terms.specs.Instance.{Instance}
use Rattle.location_terms.specs.Bound.{Duals}
use Rattle.location_terms.specs.Fit.{AreTame}
use Rattle.dual_value.specs.Slacks.{AreSlacks}
use Rattle.dual_ascent.specs.Ascent.{raised}
use Rattle.dual_ascent.specs.Steps.{AreBlockers, HasMoved, picks}
use Rattle.dual_ascent.proofs.Raised.{IsRisen}
use Rattle.dual_ascent.proofs.Turns.{turns, turns_next, turns_rise, turns_tame, turns_all, moved_next}
use Rattle.dual_ascent.proofs.climbing.round.Goals as goal
use Rattle.dual_ascent.proofs.climbing.round.Goals.{then-is_picked, else-is_picked}

pub turn-risen-requires-clause-tame : goal.turn-risen-requires-clause-tame
turn-risen-requires-clause-tame c =
    let I = c.args.boxed.now.instance in
    let count : c.custs-cust-end.result ≡ length I.customers = c.custs-cust-end.ensures.count ∙ ap (λ (J : Instance). length J.customers) c.instance.ensures in
    subst (λ (d : Duals). AreTame I d) (sym c.loop-cust.invariant.exact) (turns_tame I c.args.boxed.now.path (picks c.args.apart) c.args.duals.now c.requires.tame.fit.of_instance.customers c.loop-cust.cust (omega (arith, count)) c.requires.valid c.requires.tame)

pub loop-cust-preserved : goal.loop-cust-preserved
loop-cust-preserved c =
    let I = c.args.boxed.now.instance in
    let path = c.args.boxed.now.path in
    let start : Duals = c.args.duals.now in
    let k : ℕ = c.loop-cust.cust in
    let p : ℕ → Bool = picks c.args.apart in
    let before : Duals = c.loop-cust.duals in
    let held = c.loop-cust.invariant in
    let next = turns_next I path p start k in
    let count : c.custs-cust-end.result ≡ length I.customers = c.custs-cust-end.ensures.count ∙ ap (λ (J : Instance). length J.customers) c.instance.ensures in
    let known : k < length I.customers = omega (arith, count) in
    let rises : IsRisen I path start (turns I path p start k) = turns_rise I path p start c.requires.tame.fit.of_instance.customers k (omega (arith, known)) in
    let turns_long : length before.v ≡ length I.customers = ap (λ (d : Duals). length d.v) held.exact ∙ rises.customers ∙ c.requires.tame.fit.of_instance.customers in
    let Cond : Bool → Duals = λ b. cond b (raised I path (turns I path p start k) k) (turns I path p start k) in
    elim c.if-is_picked.branch [
      | then-is_picked w ↦
          let picked : p k ≡ true = sym c.is_picked.ensures ∙ w.if-is_picked.true in
          let turned = w.turn-risen.ensures in
          let here : k < length before.v = omega (arith, known, turns_long) in
          let moved : HasMoved I start w.turn-risen.new.duals (c.loop-cust.risen || w.turn-risen.result) = moved_next I path start before w.turn-risen.new.duals k known here c.loop-cust.risen w.turn-risen.result turned.exact turned.rose held.moved in
          record {
            exact = w.duals-is ∙ turned.exact ∙ ap (λ (d : Duals). raised I path d k) held.exact ∙ sym (next ∙ ap Cond picked);
            moved = subst (λ (d : Duals). HasMoved I start d c.if-is_picked.risen) (sym w.duals-is) (subst (HasMoved I start w.turn-risen.new.duals) (sym w.risen-is) moved);
            slacks = subst (λ (d : Duals). AreSlacks I path d c.if-is_picked.slacks) (sym w.duals-is) (subst (λ (ss : List ℤ). AreSlacks I path w.turn-risen.new.duals ss) (sym w.slacks-is) turned.slacks);
            blockers = subst (λ (d : Duals). AreBlockers I path d c.if-is_picked.blockers) (sym w.duals-is) (subst (λ (bs : List (Option ℕ)). AreBlockers I path w.turn-risen.new.duals bs) (sym w.blockers-is) turned.blockers);
          }
      | else-is_picked w ↦
          let passed_over : p k ≡ false = sym c.is_picked.ensures ∙ w.if-is_picked.false in
          record {
            exact = w.duals-is ∙ held.exact ∙ sym (next ∙ ap Cond passed_over);
            moved = subst (λ (d : Duals). HasMoved I start d c.if-is_picked.risen) (sym w.duals-is) (subst (HasMoved I start before) (sym w.risen-is) held.moved);
            slacks = subst (λ (d : Duals). AreSlacks I path d c.if-is_picked.slacks) (sym w.duals-is) (subst (λ (ss : List ℤ). AreSlacks I path before ss) (sym w.slacks-is) held.slacks);
            blockers = subst (λ (d : Duals). AreBlockers I path d c.if-is_picked.blockers) (sym w.duals-is) (subst (λ (bs : List (Option ℕ)). AreBlockers I path before bs) (sym w.blockers-is) held.blockers);
          }
    ]

pub returns-clause-exact : goal.returns-clause-exact
returns-clause-exact c =
    let I = c.args.boxed.now.instance in
    let path = c.args.boxed.now.path in
    let p : ℕ → Bool = picks c.args.apart in
    let count : c.custs-cust-end.result ≡ length I.customers = c.custs-cust-end.ensures.count ∙ ap (λ (J : Instance). length J.customers) c.instance.ensures in
    let all : c.loop-cust.cust ≡ length I.customers = omega (arith, count) in
    c.loop-cust.invariant.exact ∙ ap (turns I path p c.args.duals.now) all ∙ turns_all I path p c.args.duals.now
