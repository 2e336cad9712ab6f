use Rattle.std.proofs.Common.{ℕ, ◌<◌, ◌++◌, ◌∷◌, [], ◌∙◌, sym, ap, List, Option, arith, length, take}
use Rattle.std.proofs.lemmas.List.{take_more, take_all, map-append}
use Rattle.location_terms.specs.Instance.{customer_ids}
use Rattle.location_terms.proofs.Places.{length-customer_ids, slice_index-customer_ids}
use Rattle.instance_store.specs.Places.{place_of}
use Rattle.leaf_repair.specs.Placed.{places_of}
use Rattle.leaf_book.proofs.ids.place_custs.Goals as goal

pub loop-cust-preserved : goal.loop-cust-preserved
loop-cust-preserved c =
    let I = c.args.inst.now in
    let ids = c.args.ids.now in
    let k = c.loop-cust.cust in
    let known : k < length (customer_ids I) = omega (arith, length-customer_ids I) in
    let f : ℕ → Option ℕ = λ x. place_of x ids in
    record {
      places =
          c.push_reserved.ensures.items
          ∙ ap (λ (xs : List (Option ℕ)). xs ++ c.place_of_cust.result ∷ []) c.loop-cust.invariant.places
          ∙ ap (λ (o : Option ℕ). places_of ids (take k (customer_ids I)) ++ o ∷ []) (c.place_of_cust.ensures ∙ ap f (c.cust_id.ensures ∙ sym (slice_index-customer_ids I k (omega arith))))
          ∙ sym (ap (places_of ids) (take_more (customer_ids I) k 0 known) ∙ map-append f (take k (customer_ids I)) (_ ∷ []));
      len = omega (arith, c.push_reserved.ensures.len, c.loop-cust.invariant.len);
      room = c.push_reserved.ensures.capacity ∙ c.loop-cust.invariant.room;
    }

pub returns-clause-places : goal.returns-clause-places
returns-clause-places c =
    let I = c.args.inst.now in
    c.loop-cust.invariant.places ∙ ap (places_of c.args.ids.now) (take_all c.loop-cust.cust (customer_ids I) (omega (arith, length-customer_ids I)))
