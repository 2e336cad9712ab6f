-- A plan that is carried over to an instance that was edited. What a search is handed (IsHanded, target_in) is of calls that are yet to come.
use Rattle.std.specs.Prelude.{◌≡◌, ◌⊎◌, ◌==◌, ℕ, Bool, ◌&&◌, ◌||◌, not, List, map, filter, filter_map, find, Option, None, Some, option_map, is_some, unwrap_or, nat_lt, if◌then◌else◌}
use Rattle.std.specs.List.{list_any, reduce}
use Rattle.std.specs.Option.{option_or}
use Rattle.location_terms.specs.Instance.{Instance, Site, customer_ids, lane}
use Rattle.location_terms.specs.Plan.{Plan, IsFeasible, cost_of}
use Rattle.location_terms.specs.Box.{must_open, must_close}

-- the id stands among these
abbrev pub is_listed : List ℕ → ℕ → Bool
is_listed ids s = list_any (λ x. x == s) ids

-- the site was open in the plan or its status asks for it to be open, and its status doesn't close it
abbrev pub is_carried : Plan → Site → Bool
is_carried P x = (must_open x.status || is_listed P.sites x.id) && not (must_close x.status)

-- the open sites: those of the plan that are still there and that no status closes, and those that must be open
abbrev pub carried_sites : Instance → Plan → List ℕ
carried_sites I P = map (λ x. x.id) (filter (is_carried P) I.sites)

-- of the open sites, that of the cheapest lane to the customer, the one of the least id where several cost as little; none where no open site has a lane to it
abbrev pub cheapest_site : Instance → List ℕ → ℕ → Option ℕ
cheapest_site I sites c =
    reduce (λ best s. if nat_lt (unwrap_or (lane I s c) 0) (unwrap_or (lane I best c) 0) then s else best) (filter (λ s. is_some (lane I s c)) sites)

-- the site that served the customer, where that site is open and has a lane to it
abbrev pub former_site : Instance → Plan → List ℕ → ℕ → Option ℕ
former_site I P sites c =
    option_map (λ v. v.1) (find (λ v. v.0 == c && is_listed sites v.1 && is_some (lane I v.1 c)) P.serves)

-- the site that serves the customer: the former one, or else that of the cheapest lane
abbrev pub carried_site : Instance → Plan → List ℕ → ℕ → Option ℕ
carried_site I P sites c = option_or (former_site I P sites c) (cheapest_site I sites c)

-- The plan for this instance: each of its customers is served as before, where that is possible, else over its cheapest lane from an open site, and is left
-- out where there is no such lane. Nothing is asked of capacities and of the number of open sites.
abbrev pub carried_plan : Instance → Plan → Plan
carried_plan I P = record {
  sites = carried_sites I P;
  serves = filter_map (λ c. option_map (λ s. (c, s)) (carried_site I P (carried_sites I P) c)) (customer_ids I);
}

-- the plan that a search of this instance is handed: the carried one where it is feasible, and else none
abbrev pub IsHanded : Instance → Option Plan → Option Plan → Type 0
IsHanded I None handed = handed ≡ None
IsHanded I (Some P) handed = (IsFeasible I (carried_plan I P) × (handed ≡ Some (carried_plan I P))) ⊎ ((¬ IsFeasible I (carried_plan I P)) × (handed ≡ None))

-- the cost against which leaves stand unchanged: that of the plan that is handed, where there is one
abbrev pub target_in : Instance → Option Plan → Option ℕ
target_in I handed = option_map (cost_of I) handed
