use Rattle.std.proofs.Common.{ℕ, ◌<◌, ◌++◌, ◌∷◌, [], ◌∙◌, sym, ap, List, arith, length, take}
use Rattle.std.proofs.lemmas.List.{take_more}
use Rattle.location_terms.specs.Instance.{customer_ids}
use Rattle.location_terms.proofs.Places.{length-customer_ids, slice_index-customer_ids}
use Rattle.leaf_repair.proofs.places.instance_customers.Goals as goal

pub loop-cust-preserved : goal.loop-cust-preserved
loop-cust-preserved c =
    let I = c.args.inst.now in
    let known : c.loop-cust.cust < length (customer_ids I) = omega (arith, length-customer_ids I) in
    c.in_ok-push.ensures.items
    ∙ ap (λ (xs : List ℕ). xs ++ c.number.result ∷ []) c.loop-cust.invariant
    ∙ ap (λ (x : ℕ). take c.loop-cust.cust (customer_ids I) ++ x ∷ []) (c.number.ensures ∙ c.cust_id.ensures ∙ sym (slice_index-customer_ids I c.loop-cust.cust (omega arith)))
    ∙ sym (take_more (customer_ids I) c.loop-cust.cust 0 known)
