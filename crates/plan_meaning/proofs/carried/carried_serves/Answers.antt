use Rattle.std.proofs.Common.{◌≡◌, ℕ, ◌<◌, length, map, get_or, ap, sym, ◌∙◌, arith}
use Rattle.std.specs.Prelude.{Option}
use Rattle.location_terms.specs.Instance.{customer_ids}
use Rattle.location_terms.specs.Carried.{carried_site}
use Rattle.location_terms.proofs.Places.{length-customer_ids, slice_index-customer_ids}
use Rattle.plan_meaning.proofs.Carrying.{serves_with}
use Rattle.plan_meaning.proofs.carried.carried_serves.Goals as goal

pub loop-j-preserved : goal.loop-j-preserved
loop-j-preserved c =
    let I = c.args.inst.now in
    let j : ℕ = c.loop-j.j in
    let h : ℕ → Option ℕ = carried_site I c.args.plan.now (map (λ x. x.0) c.args.opened.now) in
    let within : j < length I.customers = omega (arith, c.custs-custs.ensures.count) in
    let id : c.cust_id.result ≡ get_or (customer_ids I) j 0 = c.cust_id.ensures ∙ sym (slice_index-customer_ids I j within) in
    let site : c.carried_site.result ≡ h (get_or (customer_ids I) j 0) = c.carried_site.ensures ∙ ap h (sym (slice_index-customer_ids I j within)) in
    serves_with h (customer_ids I) j _ _ _ _ (omega (arith, within, length-customer_ids I)) c.loop-j.invariant id site c.in_ok-push_serve.ensures
