-- Where any site can serve all customers there is a plan: the first site alone serves them.
use Rattle.std.proofs.Common.{◌≡◌, ℕ, ◌≤◌, [], ◌∷◌, map, get_or, sym, ◌∙◌, subst, arith}
use Rattle.std.specs.Prelude.{Contains, IsSome, IfSome}
use Rattle.std.specs.List.Sorted.{IsStrictlyIncreasing}
use Rattle.std.proofs.lemmas.Simd.{map-map}
use Rattle.std.proofs.lemmas.List.{map-id}
use Rattle.std.proofs.lemmas.List.Elements.{All-map, All-cons, All-nil, Contains-get_or}
use Rattle.location_terms.specs.Instance.{Instance, IsValid, site_ids, customer_ids, lane}
use Rattle.location_terms.specs.Plan.{Plan, served, IsFeasible, KeepsStatus, load_of}
use Rattle.location_terms.specs.Plain.{IsPlain}
use Rattle.location_terms.proofs.Places.{length-site_ids}
use Rattle.set_walk.proofs.Least.{lane_between}

module _ (I : Instance) where
  abbrev first : ℕ
  first = get_or (site_ids I) 0 0

  abbrev pub alone : Plan
  alone = record { sites = first ∷ []; serves = map (λ c. (c, first)) (customer_ids I) }

  alone_serves : served alone ≡ customer_ids I
  alone_serves = map-map (λ (v : ℕ × ℕ). v.0) (λ (c : ℕ). (c, first)) (customer_ids I) ∙ map-id (customer_ids I)

  first_known : IsValid I → Contains (site_ids I) first
  first_known valid = let some = valid.sizes.some_site in Contains-get_or (site_ids I) 0 0 (omega (arith, some, length-site_ids I))

  one_rises : IsStrictlyIncreasing (first ∷ [])
  one_rises = λ k below. absurd (omega (arith, below))

  pub alone_feasible : IsValid I → IsPlain I → IsFeasible I alone
  alone_feasible valid plain =
      record {
        plan = record { sites_rise = one_rises; customers_rise = subst IsStrictlyIncreasing (sym alone_serves) valid.customers_named.rising };
        sites_known = All-cons (Contains (site_ids I)) first [] (first_known valid) (All-nil (Contains (site_ids I)));
        each_once = alone_serves;
        by_open = All-map (λ (v : ℕ × ℕ). Contains (first ∷ []) v.1) (λ (c : ℕ). (c, first)) (customer_ids I) (λ k d below. Contains-get_or (first ∷ []) 0 0 (omega arith));
        by_lane = All-map (λ (v : ℕ × ℕ). IsSome (lane I v.1 v.0)) (λ (c : ℕ). (c, first)) (customer_ids I)
            (λ k d below. lane_between I plain first (get_or (customer_ids I) k d) (first_known valid) (Contains-get_or (customer_ids I) k d below));
        within_cap = λ k d h has. let s = get_or I.sites k d in subst (λ cap. IfSome cap (λ most. load_of I alone s.id ≤ most)) (sym (plain.sites k d h).no_cap) tt;
        at_least = let none = plain.none_asked in omega (arith, none);
        at_most = let room = plain.none_barred in let some = valid.sizes.some_site in omega (arith, room, some);
        statuses = λ k d h. let s = get_or I.sites k d in subst (KeepsStatus alone s.id) (sym (plain.sites k d h).free) tt;
      }
