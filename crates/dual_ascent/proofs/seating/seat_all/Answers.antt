use Rattle.std.proofs.Common.{◌≡◌, ℕ, true, false, Bool, cond, length, sym, ap, subst, ◌∙◌, arith}
use Rattle.location_terms.specs.Instance.{Instance, IsValid}
use Rattle.location_terms.specs.Bound.{Duals}
use Rattle.location_terms.specs.Fit.{AreTame}
use Rattle.dual_ascent.specs.Ascent.{seated}
use Rattle.dual_ascent.specs.Steps.{picks}
use Rattle.dual_ascent.proofs.Turns.{seats, seats_next, seats_tame}
use Rattle.dual_ascent.proofs.seating.seat_all.Goals as goal
use Rattle.dual_ascent.proofs.seating.seat_all.Goals.{then-is_picked, else-is_picked}

pub seat-requires-clause-valid : goal.seat-requires-clause-valid
seat-requires-clause-valid c = subst IsValid c.instance.ensures c.custs-cust-end.ensures.valid

pub seat-requires-clause-tame : goal.seat-requires-clause-tame
seat-requires-clause-tame c =
    let I = c.args.boxed.now.instance in
    let valid : IsValid I = subst IsValid c.instance.ensures c.custs-cust-end.ensures.valid in
    let count : c.custs-cust-end.result ≡ length I.customers = c.custs-cust-end.ensures.count ∙ ap (λ (J : Instance). length J.customers) c.instance.ensures in
    subst (λ (d : Duals). AreTame I d) (sym c.loop-cust.invariant) (seats_tame I c.args.boxed.now.path (picks c.args.apart) c.args.duals.now c.requires.tame.fit.of_instance.customers c.loop-cust.cust (omega (arith, count)) valid c.requires.tame)

pub loop-cust-preserved : goal.loop-cust-preserved
loop-cust-preserved c =
    let I = c.args.boxed.now.instance in
    let path = c.args.boxed.now.path in
    let start : Duals = c.args.duals.now in
    let k : ℕ = c.loop-cust.cust in
    let p : ℕ → Bool = picks c.args.apart in
    let next = seats_next I path p start k in
    elim c.if-is_picked.branch [
      | then-is_picked w ↦
          let picked : p k ≡ true = sym c.is_picked.ensures ∙ w.if-is_picked.true in
          let seated_before : w.seat.new.duals ≡ seated I path (seats I path p start k) k = w.seat.ensures ∙ ap (λ (d : Duals). seated I path d k) c.loop-cust.invariant in
          w.duals-is ∙ seated_before ∙ sym (next ∙ ap (λ (b : Bool). cond b (seated I path (seats I path p start k) k) (seats I path p start k)) picked)
      | else-is_picked w ↦
          let passed_over : p k ≡ false = sym c.is_picked.ensures ∙ w.if-is_picked.false in
          w.duals-is ∙ c.loop-cust.invariant ∙ sym (next ∙ ap (λ (b : Bool). cond b (seated I path (seats I path p start k) k) (seats I path p start k)) passed_over)
    ]

pub returns : goal.returns
returns c =
    let I = c.args.boxed.now.instance in
    let path = c.args.boxed.now.path in
    let start : Duals = c.args.duals.now in
    let p : ℕ → Bool = picks c.args.apart in
    let valid : IsValid I = subst IsValid c.instance.ensures c.custs-cust-end.ensures.valid in
    let count : c.custs-cust-end.result ≡ length I.customers = c.custs-cust-end.ensures.count ∙ ap (λ (J : Instance). length J.customers) c.instance.ensures in
    let all : c.loop-cust.cust ≡ length I.customers = omega (arith, count) in
    let exact = c.loop-cust.invariant ∙ ap (seats I path p start) all in
    let tame : AreTame I c.loop-cust.duals = subst (λ (d : Duals). AreTame I d) (sym exact) (seats_tame I path p start c.requires.tame.fit.of_instance.customers (length I.customers) (omega arith) valid c.requires.tame) in
    record { exact = exact; tame = tame; valid = valid }
