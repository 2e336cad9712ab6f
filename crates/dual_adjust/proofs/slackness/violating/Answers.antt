use Rattle.std.proofs.Common.{◌≡◌, ℕ, ap, sym, ◌∙◌, ◌∷◌, [], ◌++◌}
use Rattle.location_terms.specs.Instance.{customer_at}
use Rattle.dual_adjust.specs.Slackness.{is_violating}
use Rattle.dual_adjust.proofs.IdsRise.{list_next, list_same}
use Rattle.dual_adjust.proofs.slackness.violating.Goals as goal
use Rattle.dual_adjust.proofs.slackness.violating.Goals.{then-pays_two+in_ok-push, else-pays_two}

pub loop-cust-preserved : goal.loop-cust-preserved
loop-cust-preserved c = λ ids of.
    let I = c.args.boxed.now.instance in
    let path = c.args.boxed.now.path in
    let d = c.args.duals.now in
    let k = c.loop-cust.cust in
    let id : ℕ → ℕ = λ j. (customer_at I j).id in
    let is : c.pays_two.result ≡ is_violating I path d ids k = c.pays_two.ensures ids of in
    elim c.if-pays_two.branch [
      | then-pays_two+in_ok-push w ↦
          let here : w.cust_id.result ≡ id k = rw c.instance-inst.ensures at w.cust_id.ensures in
          ap (λ v. v.items) w.custs-is ∙ w.in_ok-push.ensures.items ∙ ap (λ (n : ℕ). c.loop-cust.custs.items ++ n ∷ []) here ∙ list_next id (is_violating I path d ids) k c.loop-cust.custs.items (c.loop-cust.invariant ids of) (sym is ∙ w.if-pays_two.true)
      | else-pays_two w ↦ ap (λ v. v.items) w.custs-is ∙ list_same id (is_violating I path d ids) k c.loop-cust.custs.items (c.loop-cust.invariant ids of) (sym is ∙ w.if-pays_two.false)
    ]
