use Rattle.std.proofs.Common.{◌≡◌, ◌<◌, length, ap, sym, ◌∙◌, arith}
use Rattle.std.proofs.lemmas.Bool.{both_ways, not-true, eq-eqb}
use Rattle.plan_meaning.proofs.Served.{customer_served, once_by_places}
use Rattle.plan_meaning.proofs.parts.serves_each_once.Goals as goal

pub returns-then-ne-clause-once : goal.returns-then-ne-clause-once
returns-then-ne-clause-once c = (
  λ e. cc,
  λ once.
      let within : c.loop-k.k < length c.args.plan.now.serves = omega (arith, c.serve_count.ensures.count) in
      let same : c.serve-cust.result.0 ≡ c.cust_id.result = ap (λ v. v.0) c.serve-cust.ensures ∙ customer_served c.args.inst.now c.args.plan.now once c.loop-k.k within ∙ sym c.cust_id.ensures in
      absurd (both_ways _ (not-true _ (sym c.if-ne.ensures)) (eq-eqb _ _ same)),
)

pub returns-clause-once : goal.returns-clause-once
returns-clause-once c = (λ _. once_by_places c.args.inst.now c.args.plan.now (omega (arith, c.serve_count.ensures.count, c.custs-custs.ensures.count)) (λ k within. c.loop-k.invariant k (omega arith)), λ _. cc)
