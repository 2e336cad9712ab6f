-- A plan of just the instance's customers by the places of the instance.
use Rattle.std.proofs.Common.{◌≡◌, ℕ, ◌<◌, sym, ap, ◌∙◌, arith, length, get_or}
use Rattle.std.proofs.lemmas.Grind.{same_number_lists}
use Rattle.std.proofs.lemmas.List.{length-map}
use Rattle.location_terms.specs.Instance.{Instance, customer_at, customer_ids}
use Rattle.location_terms.specs.Plan.{Plan, served}
use Rattle.location_terms.proofs.Places.{length-customer_ids, slice_index-customer_ids}
use Rattle.plan_meaning.specs.Plan.{serve_at}
use Rattle.plan_meaning.specs.PlanFault.{ServesEachOnce}
use Rattle.plan_meaning.proofs.Rising.{get_or-served}

module _ (I : Instance) (P : Plan) (once : ServesEachOnce I P) where
  pub as_many_served : length P.serves ≡ length I.customers
  as_many_served = sym (length-map P.serves (λ v. v.0)) ∙ ap length once ∙ length-customer_ids I

  -- the customer at a place of the plan is the one at that place of the instance
  pub customer_served : (k : ℕ) → k < length P.serves → (serve_at P k).0 ≡ (customer_at I k).id
  customer_served k b =
      sym (get_or-served P.serves k (0, 0) b) ∙ ap (λ ids. get_or ids k 0) once ∙ slice_index-customer_ids I k (omega (arith, as_many_served))

-- the customers are the same where they are so at each place
pub once_by_places : (I : Instance) (P : Plan) → length P.serves ≡ length I.customers → ((k : ℕ) → k < length P.serves → (serve_at P k).0 ≡ (customer_at I k).id) → ServesEachOnce I P
once_by_places I P as_many same =
    same_number_lists (served P) (customer_ids I) (length-map P.serves (λ v. v.0) ∙ as_many ∙ sym (length-customer_ids I))
    (λ k within.
    let b : k < length P.serves = rw length-map at within in
    get_or-served P.serves k (0, 0) b ∙ same k b ∙ sym (slice_index-customer_ids I k (omega (arith, as_many))))
