-- A feasible plan by the places of its instance: who is served where, and what a site carries.
use Rattle.std.proofs.Common.{◌≡◌, ℕ, ◌*◌, ◌<◌, ◌≤◌, refl, sym, ap, ◌∙◌, arith, subst, Bool, true, false, cond, length, get_or, ℤ, pos, ◌≤ℤ◌}
use Rattle.std.specs.Prelude.{Contains, IsSome, ◌==◌}
use Rattle.std.proofs.lemmas.Int.{ints}
use Rattle.std.proofs.lemmas.Bool.{eqb-true}
use Rattle.std.proofs.lemmas.List.{length-map, get_or-map}
use Rattle.std.proofs.lemmas.List.Elements.{All-contains, Contains-get_or}
use Rattle.location_terms.specs.Instance.{Instance, IsValid, site_at, customer_at, lane, demand_of}
use Rattle.location_terms.specs.Plan.{Plan, IsFeasible, load_of}
use Rattle.location_terms.specs.Bound.{total}
use Rattle.location_terms.proofs.Totals.{total_same, total_part}
use Rattle.location_terms.proofs.Listed.{total-filter}
use Rattle.location_terms.proofs.Places.{demand_of-customer_at}

-- the customer and the site of a place of the plan's service
abbrev pub service_at : Plan → ℕ → ℕ × ℕ
service_at P j = get_or P.serves j (0, 0)

-- whether the plan serves the customer at j from the site at i
abbrev pub is_served_from : Instance → Plan → ℕ → ℕ → Bool
is_served_from I P i j = (service_at P j).1 == (site_at I i).id

-- at the price u, what the demand of the customer at j costs the site at i
abbrev pub load_at : Instance → Plan → ℕ → ℕ → ℕ → ℤ
load_at I P u i j = cond (is_served_from I P i j) (pos (u * (customer_at I j).demand)) (pos 0)

from_zero : (t : Bool) (n : ℕ) → pos 0 ≤ℤ cond t (pos n) (pos 0)
from_zero true n = omega (arith, ints)
from_zero false n = omega (arith, ints)

module _ (I : Instance) (valid : IsValid I) where
  module _ (P : Plan) (feasible : IsFeasible I P) where
    pub as_many_served : length P.serves ≡ length I.customers
    as_many_served = sym (length-map P.serves (λ v. v.0)) ∙ ap length feasible.each_once ∙ length-map I.customers (λ c. c.id)

    pub customer_served : (j : ℕ) → j < length I.customers → (service_at P j).0 ≡ (customer_at I j).id
    customer_served j b =
        sym (get_or-map (λ v. v.0) P.serves j (0, 0) 0 (omega (arith, as_many_served)))
        ∙ ap (λ ids. get_or ids j 0) feasible.each_once
        ∙ get_or-map (λ c. c.id) I.customers j _ 0 b

    pub server_is_open : (j : ℕ) → j < length I.customers → Contains P.sites (service_at P j).1
    server_is_open j b = feasible.by_open j (0, 0) (omega (arith, as_many_served))

    module _ (i j : ℕ) (b : j < length I.customers) (used : is_served_from I P i j ≡ true) where
      service_is : service_at P j ≡ ((customer_at I j).id, (site_at I i).id)
      service_is =
          let v : ℕ × ℕ = service_at P j in
          let customer : v.0 ≡ (customer_at I j).id = customer_served j b in
          let server : v.1 ≡ (site_at I i).id = eqb-true _ _ used in
          subst (λ c. v ≡ (c, (site_at I i).id)) customer (subst (λ s. v ≡ (v.0, s)) server refl)

      pub is_used : Contains P.serves ((customer_at I j).id, (site_at I i).id)
      is_used = rw service_is at (Contains-get_or P.serves j (0, 0) (omega (arith, as_many_served)))

      pub has_lane : IsSome (lane I (site_at I i).id (customer_at I j).id)
      has_lane = All-contains (λ v. IsSome (lane I v.1 v.0)) P.serves ((customer_at I j).id, (site_at I i).id) feasible.by_lane is_used

    pub total_load : (u i : ℕ) → total (load_at I P u i) (length I.customers) ≡ pos (u * load_of I P (site_at I i).id)
    total_load u i =
        let by_service : ℕ → ℤ = λ j. cond (is_served_from I P i j) (pos (u * demand_of I (service_at P j).0)) (pos 0) in
        let same : total (load_at I P u i) (length I.customers) ≡ total by_service (length I.customers) =
        total_same (load_at I P u i) by_service (length I.customers)
        (λ j b. ap (λ w. cond (is_served_from I P i j) (pos (u * w)) (pos 0)) (sym (demand_of-customer_at I j valid.customers_named.rising b) ∙ ap (demand_of I) (sym (customer_served j b)))) in
        same ∙ ap (total by_service) (sym as_many_served) ∙ total-filter u (λ v. demand_of I v.0) P.serves (0, 0) (λ v. v.1 == (site_at I i).id)

    pub demand_within_load : (i j : ℕ) → j < length I.customers → is_served_from I P i j ≡ true → (customer_at I j).demand ≤ load_of I P (site_at I i).id
    demand_within_load i j b used =
        let part : load_at I P 1 i j ≤ℤ total (load_at I P 1 i) (length I.customers) = total_part (load_at I P 1 i) (length I.customers) j b (λ k c. from_zero (is_served_from I P i k) (1 * (customer_at I k).demand)) in
        let here : load_at I P 1 i j ≡ pos (1 * (customer_at I j).demand) = ap (λ t. cond t (pos (1 * (customer_at I j).demand)) (pos 0)) used in
        omega (arith, ints, part, here, total_load 1 i)
