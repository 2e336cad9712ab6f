use Rattle.std.proofs.Common.{ℕ, ◌++◌, [], ◌∷◌, ◌<◌, length, map, All, arith, ap, sym, ◌∙◌, subst}
use Rattle.std.proofs.lemmas.List.Elements.{All-push}
use Rattle.location_terms.specs.Instance.{site_at}
use Rattle.set_walk.specs.Set.{opened, IsNearest}
use Rattle.set_walk.proofs.Steps.{served_more}
use Rattle.set_walk.proofs.walk.nearest_serves.Goals as goal

pub loop-customer-preserved : goal.loop-customer-preserved
loop-customer-preserved c =
    let I = c.args.inst.now in
    let S = opened I c.args.set.bits in
    let j = c.loop-customer.customer in
    let serves = c.loop-customer.serves.items in
    let customer = c.cust_id.result in
    let site = c.site_id.result in
    let within : j < length I.customers = omega (arith, c.custs-customer-end.ensures.count) in
    let pushed = c.in_ok-push.ensures.items in
    let by_id : IsNearest I S customer (site_at I c.nearest_site-nearest.result.site).id = subst (λ n. IsNearest I S n (site_at I c.nearest_site-nearest.result.site).id) (sym c.cust_id.ensures) c.nearest_site-nearest.ensures.nearest in
    let by_ids : IsNearest I S customer site = subst (λ n. IsNearest I S customer n) (sym c.site_id.ensures) by_id in
    record {
      served =
          ap (map (λ (v : ℕ × ℕ). v.0)) pushed
          ∙ ap (λ n. map (λ (v : ℕ × ℕ). v.0) (serves ++ (n, site) ∷ [])) c.cust_id.ensures
          ∙ served_more I serves site j within c.loop-customer.invariant.served;
      nearest = subst (All (λ (v : ℕ × ℕ). IsNearest I S v.0 v.1)) (sym pushed) (All-push (λ (v : ℕ × ℕ). IsNearest I S v.0 v.1) serves (customer, site) c.loop-customer.invariant.nearest by_ids);
    }
