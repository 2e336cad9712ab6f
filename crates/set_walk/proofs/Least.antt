-- A plan that serves each customer from a nearest site of a set is feasible, and optimal where no set costs less.
use Rattle.std.proofs.Common.{◌≡◌, ℕ, ◌^◌, ◌<◌, ◌≤◌, length, get_or, sym, ap, ◌∙◌, subst, ⊎_elim, arith}
use Rattle.std.specs.Prelude.{All, Contains, IsSome, IfSome}
use Rattle.std.specs.List.Sorted.{IsStrictlyIncreasing}
use Rattle.std.proofs.lemmas.List.{length-map, get_or-map}
use Rattle.std.proofs.lemmas.List.Elements.{All-map, All-contains, All-contains_itself, Contains-get_or}
use Rattle.std.proofs.lemmas.List.Kept.{AllPairs-from_increasing}
use Rattle.location_terms.specs.Instance.{Instance, IsValid, site_ids, customer_ids, lane}
use Rattle.location_terms.specs.Plan.{Plan, served, IsFeasible, KeepsStatus, load_of}
use Rattle.location_terms.specs.Optimal.{IsOptimal}
use Rattle.location_terms.specs.Plain.{IsPlain}
use Rattle.location_terms.proofs.Places.{length-site_ids, length-customer_ids}
use Rattle.set_walk.specs.Set.{members, opened, cost_on, IsNearestPlan}
use Rattle.set_walk.proofs.Members.{Rises, Rises-members, increasing_from_Rises, All-members, length-members, members-zero, SetOf, set_of}
use Rattle.set_walk.proofs.Costs.{cost_of-nearest, cost_on-le}

-- every pair of ids has a lane
lanes_by_ids : (I : Instance) → IsPlain I → All (λ s. All (λ c. IsSome (lane I s c)) (customer_ids I)) (site_ids I)
lanes_by_ids I plain =
    All-map (λ s. All (λ c. IsSome (lane I s c)) (customer_ids I)) (λ s. s.id) I.sites
    (λ k d h. let s = get_or I.sites k d in All-map (λ c. IsSome (lane I s.id c)) (λ c. c.id) I.customers (plain.sites k d h).all_lanes)

pub lane_between : (I : Instance) → IsPlain I → (s c : ℕ) → Contains (site_ids I) s → Contains (customer_ids I) c → IsSome (lane I s c)
lane_between I plain s c site customer =
    All-contains (λ d. IsSome (lane I s d)) (customer_ids I) c (All-contains (λ t. All (λ d. IsSome (lane I t d)) (customer_ids I)) (site_ids I) s (lanes_by_ids I plain) site) customer

-- whom a line of the plan serves is a customer of the instance
served_known : (I : Instance) (P : Plan) → served P ≡ customer_ids I → All (λ v. Contains (customer_ids I) v.0) P.serves
served_known I P each_once k d h =
    let within : k < length (served P) = omega (arith, length-map P.serves (λ v. v.0)) in
    let there = Contains-get_or (served P) k 0 within in
    let here = subst (λ xs. Contains xs (get_or (served P) k 0)) each_once there in
    subst (Contains (customer_ids I)) (get_or-map (λ v. v.0) P.serves k d 0 h) here

-- the sites of a set rise
opened_rises : (I : Instance) → IsValid I → (set : ℕ) → Rises (opened I set)
opened_rises I valid set = Rises-members set (site_ids I) (AllPairs-from_increasing (site_ids I) valid.sites_named.rising)

pub opened_known : (I : Instance) (set : ℕ) → All (Contains (site_ids I)) (opened I set)
opened_known I set = All-members (Contains (site_ids I)) set (site_ids I) (All-contains_itself (site_ids I))

pub feasible_nearest : (I : Instance) → IsValid I → IsPlain I → (set : ℕ) (P : Plan) → IsNearestPlan I (opened I set) P → IsFeasible I P
feasible_nearest I valid plain set P made =
    record {
      plan = record {
        sites_rise = subst IsStrictlyIncreasing (sym made.sites) (increasing_from_Rises (opened I set) (opened_rises I valid set));
        customers_rise = subst IsStrictlyIncreasing (sym made.each_once) valid.customers_named.rising;
      };
      sites_known = subst (All (Contains (site_ids I))) (sym made.sites) (opened_known I set);
      each_once = made.each_once;
      by_open = λ k d h. subst (λ xs. Contains xs (get_or P.serves k d).1) (sym made.sites) (made.nearest k d h).among;
      by_lane = λ k d h.
          let v = get_or P.serves k d in
          lane_between I plain v.1 v.0 (All-contains (Contains (site_ids I)) (opened I set) v.1 (opened_known I set) (made.nearest k d h).among) (served_known I P made.each_once k d h);
      within_cap = λ k d h has. let s = get_or I.sites k d in subst (λ cap. IfSome cap (λ most. load_of I P s.id ≤ most)) (sym (plain.sites k d h).no_cap) tt;
      at_least = let none = plain.none_asked in omega arith;
      at_most =
          let few : length (opened I set) ≤ length I.sites = omega (arith, length-members set (site_ids I), length-site_ids I) in
          let room = plain.none_barred in
          omega (arith, ap length made.sites);
      statuses = λ k d h. let s = get_or I.sites k d in subst (KeepsStatus P s.id) (sym (plain.sites k d h).free) tt;
    }

-- a feasible plan opens a site, since some customer is served
opens_some : (I : Instance) → IsValid I → (Q : Plan) → IsFeasible I Q → 1 ≤ length Q.sites
opens_some I valid Q can =
    let someone : 0 < length Q.serves = let one = valid.sizes.some_customer in omega (arith, length-map Q.serves (λ v. v.0), length-customer_ids I, ap length can.each_once) in
    let at = can.by_open 0 (0, 0) someone in
    let within = at.1 in
    omega arith

-- the walk comes to the sites of each feasible plan
pub set_of_feasible : (I : Instance) → IsValid I → (Q : Plan) → IsFeasible I Q → SetOf Q.sites (site_ids I)
set_of_feasible I valid Q can =
    set_of (site_ids I) Q.sites (AllPairs-from_increasing (site_ids I) valid.sites_named.rising) (AllPairs-from_increasing Q.sites can.plan.sites_rise) can.sites_known

pub optimal_nearest : (I : Instance) → IsValid I → IsPlain I → (set : ℕ) (P : Plan) → IsNearestPlan I (opened I set) P → ((other : ℕ) → 1 ≤ other → other < 2 ^ length I.sites → cost_on I (opened I set) ≤ cost_on I (opened I other)) → IsOptimal I P
optimal_nearest I valid plain set P made least =
    record {
      feasible = feasible_nearest I valid plain set P made;
      least = λ Q can.
          let other = set_of_feasible I valid Q can in
          let is = other.is in
          let some : 1 ≤ other.set =
          ⊎_elim (λ (one : 1 ≤ other.set). one)
          (λ (none : other.set ≡ 0). absurd (let sites = opens_some I valid Q can in let empty = ap length (sym is ∙ ap (λ k. members k (site_ids I)) none ∙ members-zero (site_ids I)) in omega arith))
          (grind arith) in
          let below : other.set < 2 ^ length I.sites = subst (λ n. other.set < 2 ^ n) (length-site_ids I) other.below in
          let there = ap (cost_on I) is in
          omega (arith, least other.set some below, cost_of-nearest I (opened I set) P made, cost_on-le I Q can, there);
    }
