-- Where no site has a capacity and the box settles each, what packing gives is a cheapest plan of the box.
use Rattle.std.proofs.Common.{◌≡◌, ℕ, ◌<◌, ◌≤◌, Bool, true, false, cond, List, [], map, length, get_or, Option, None, Some, option_map, unwrap_or, refl, sym, ap, subst, inl, inr, ◌∙◌, arith}
use Rattle.std.specs.Prelude.{Contains, IsSome, is_some, ◌==◌, ◌&&◌, not, nat_le, sum_by}
use Rattle.std.specs.List.{list_any}
use Rattle.std.proofs.lemmas.Bool.{and_parts, and_from, le-leb, eq-eqb, both_ways, false_from_ne_true}
use Rattle.std.proofs.lemmas.List.{length-map, get_or_default}
use Rattle.std.proofs.lemmas.List.Elements.{All-contains}
use Rattle.std.proofs.lemmas.List.FromFn.{fill_by_all}
use Rattle.std.proofs.lemmas.List.Kept.{AllPairs-from_increasing}
use Rattle.std.proofs.lemmas.List.Sorted.{Contains-permutation, IsPermutation-sym}
use Rattle.location_terms.specs.Instance.{Instance, IsValid, site_at, customer_at, site_ids, lane, fixed_of}
use Rattle.location_terms.specs.Plan.{Plan, IsFeasible, KeepsStatus, cost_of}
use Rattle.location_terms.specs.Box.{Path, IsInBox, bars_lane, is_closed, is_called_for, is_free, is_torn, is_allowed, holds_demand}
use Rattle.location_terms.proofs.Kept.{closed_is_not_open, called_is_open, not_torn, used_is_not_barred}
use Rattle.location_terms.proofs.Rising.{place_of}
use Rattle.location_terms.proofs.Served.{service_at, as_many_served, customer_served, server_is_open, is_used, has_lane}
use Rattle.dual_ascent.specs.Levels.{customer_places}
use Rattle.plan_search.specs.InBox.{IsPathOf, HasNoCaps, SettlesSites, IsCheapestIn}
use Rattle.plan_search.specs.Packed.{chosen, by_falling_demand, cost_at, takeable, all_taken, plan_of, packed}
use Rattle.plan_search.proofs.Among.{Contains-map, Contains-filter, contained-place, of_places}
use Rattle.plan_search.proofs.Sums.{sum_by-map, sum_by-below}
use Rattle.plan_search.proofs.Queue.{turns_move}
use Rattle.plan_search.proofs.Ordered.{same_order}
use Rattle.plan_search.proofs.OpenSites.{chosen_below, chosen_state, called_chosen}
use Rattle.plan_search.proofs.Taken.{AreTaken, IsCheapestLane, is_takeable, all_find, holds_without}
use Rattle.plan_search.proofs.PlanOf.{server_of, of_server, sum_served}
use Rattle.plan_search.proofs.Feasible.{names, names_rise, packs, are_taken, packed_feasible, packed_in_box}

pub called_or_closed : (called closed : Bool) → (not called && not closed) ≡ false → closed ≡ false → called ≡ true
called_or_closed true closed e f = refl
called_or_closed false true e f = cc
called_or_closed false false e f = cc

is_some-from : (o : Option ℕ) → IsSome o → is_some o ≡ true
is_some-from None e = cc
is_some-from (Some x) e = refl

allowed_from : (torn some closed barred holds : Bool) → torn ≡ false → some ≡ true → closed ≡ false → barred ≡ false → holds ≡ true → (not torn && some && not closed && not barred && holds) ≡ true
allowed_from torn some closed barred holds t s c b h = rw (t, s, c, b, h) refl

none_by : {X : Type 0} (make : X → Plan) (b : Bool) (o : Option X) → cond b (option_map make o) None ≡ None → b ≡ true → o ≡ None
none_by make true None e t = refl
none_by make true (Some x) e t = cc
none_by make false o e t = cc

module _ (I : Instance) (path : Path) (hint : List ℕ) (valid : IsValid I) (no_caps : HasNoCaps I) (settled : SettlesSites I path) (Q : Plan) (can : IsFeasible I Q) (box : IsInBox Q path) where
  abbrev sites : List ℕ
  sites = chosen I path hint

  keeps_status : (i : ℕ) → i < length I.sites → KeepsStatus Q (site_at I i).id (site_at I i).status
  keeps_status i b = can.statuses i _ b

  open_not_closed : (i : ℕ) → i < length I.sites → Contains Q.sites (site_at I i).id → is_closed path (site_at I i) ≡ false
  open_not_closed i b c = false_from_ne_true _ (λ closed. closed_is_not_open I Q can path box (site_at I i) (keeps_status i b) closed c)

  -- the plan opens just the chosen sites
  open_chosen : (i : ℕ) → i < length I.sites → Contains Q.sites (site_at I i).id → Contains sites i
  open_chosen i b c =
      let not_closed : is_closed path (site_at I i) ≡ false = open_not_closed i b c in
      called_chosen I path hint i b (called_or_closed (is_called_for path (site_at I i)) (is_closed path (site_at I i)) (settled i _ b) not_closed) not_closed

  chosen_open : (i : ℕ) → Contains sites i → Contains Q.sites (site_at I i).id
  chosen_open i c =
      let b : i < length I.sites = chosen_below I path hint i c in
      elim (chosen_state I path hint i c) [
        | inl opened ↦ called_is_open I Q can path box (site_at I i) (keeps_status i b) (and_parts _ _ opened).0
        | inr free ↦ absurd (both_ways (is_free path (site_at I i)) (settled i _ b) free)
      ]

  site_place : (s : ℕ) → Contains Q.sites s → (i : ℕ) × (i < length I.sites) × ((site_at I i).id ≡ s)
  site_place s c = place_of (λ x. x.id) I.sites _ s (All-contains (Contains (site_ids I)) Q.sites s can.sites_known c)

  named_chosen : (s : ℕ) → Contains Q.sites s → Contains (names I path hint valid) s
  named_chosen s c =
      let at = site_place s c in
      subst (Contains (names I path hint valid)) at.2 (Contains-map (λ k. (site_at I k).id) sites at.0 (open_chosen at.0 at.1 (subst (Contains Q.sites) (sym at.2) c)))

  chosen_named : (s : ℕ) → Contains (names I path hint valid) s → Contains Q.sites s
  chosen_named s c =
      let at : (k : ℕ) × (k < length sites) × ((site_at I (get_or sites k 0)).id ≡ s) = place_of (λ n. (site_at I n).id) sites 0 s c in
      subst (Contains Q.sites) at.2 (chosen_open (get_or sites at.0 0) (at.0, at.1, get_or_default sites at.0 (get_or sites at.0 0) 0 at.1))

  same_sites : Q.sites ≡ names I path hint valid
  same_sites =
      same_order (λ x y. x < y) (λ x y p q. omega arith) Q.sites (names I path hint valid) (AllPairs-from_increasing Q.sites can.plan.sites_rise) (AllPairs-from_increasing (names I path hint valid) (names_rise I path hint valid)) named_chosen chosen_named

  -- a customer's site in the plan, by its place
  record Serves (j : ℕ) : Type 0 where
    place : ℕ
    below : place < length I.sites
    named : (site_at I place).id ≡ (service_at Q j).1
    chosen : Contains sites place
    allowed : is_allowed I path (site_at I place) (customer_at I j) ≡ true

  serves : (j : ℕ) → j < length I.customers → Serves j
  serves j b =
      let open_site : Contains Q.sites (service_at Q j).1 = server_is_open I valid Q can j b in
      let at = site_place (service_at Q j).1 open_site in
      let from : ((service_at Q j).1 == (site_at I at.0).id) ≡ true = eq-eqb _ _ (sym at.2) in
      let named : Contains Q.sites (site_at I at.0).id = subst (Contains Q.sites) (sym at.2) open_site in
      record {
        place = at.0;
        below = at.1;
        named = at.2;
        chosen = open_chosen at.0 at.1 named;
        allowed =
            allowed_from (is_torn I path) (is_some (lane I (site_at I at.0).id (customer_at I j).id)) (is_closed path (site_at I at.0)) (list_any (bars_lane (site_at I at.0).id (customer_at I j).id) path) (holds_demand (site_at I at.0).cap (customer_at I j).demand)
            (not_torn I Q can path box) (is_some-from _ (has_lane I valid Q can at.0 j b from)) (open_not_closed at.0 at.1 named) (used_is_not_barred I Q can path box _ _ (is_used I valid Q can at.0 j b from)) (holds_without _ _ (no_caps at.0 _ at.1));
      }

  -- so each customer finds a lane
  finds : (j : ℕ) (taken : List (ℕ × ℕ)) → Contains (by_falling_demand I) j → (i : ℕ) × Contains (takeable I path sites taken j) i
  finds j taken c =
      let turn : Contains (customer_places I) j = Contains-permutation (by_falling_demand I) (customer_places I) j (IsPermutation-sym (customer_places I) (by_falling_demand I) (turns_move I)) c in
      let by : Serves j = serves j (contained-place (length I.customers) j turn) in
      (by.place, Contains-filter (is_takeable I path sites taken j) sites by.place by.chosen (and_from _ _ by.allowed (holds_without _ _ (no_caps by.place _ by.below))))

  pub never_none : packed I path hint ≡ None → ⊥
  never_none none =
      let as_many : length Q.sites ≡ length sites = ap length same_sites ∙ length-map sites (λ i. (site_at I i).id) in
      let count : (nat_le I.lo (length sites) && nat_le (length sites) I.hi) ≡ true = and_from _ _ (le-leb I.lo (length sites) (omega (arith, can.at_least, as_many))) (le-leb (length sites) I.hi (omega (arith, can.at_most, as_many))) in
      all_find I path sites (by_falling_demand I) [] finds (none_by (plan_of I sites) _ (all_taken I path sites) none count)

  lane_cost : ℕ × ℕ → ℕ
  lane_cost v = unwrap_or (lane I v.1 v.0) 0

  module _ (taken : List (ℕ × ℕ)) (are : AreTaken I path sites (by_falling_demand I) taken) where
    lane_below : (j : ℕ) → j < length I.customers → cost_at I (server_of taken j) j ≤ lane_cost (service_at Q j)
    unfolding lane_cost
    lane_below j b =
        let by : Serves j = serves j b in
        let here : cost_at I (server_of taken j) j ≤ cost_at I by.place j = of_server I path sites taken are (IsCheapestLane I path sites) are.cheap j b by.place by.chosen by.allowed (no_caps by.place _ by.below) in
        let same : cost_at I by.place j ≡ unwrap_or (lane I (service_at Q j).1 (service_at Q j).0) 0 =
        ap (λ s. unwrap_or (lane I s (customer_at I j).id) 0) by.named ∙ ap (λ c. unwrap_or (lane I (service_at Q j).1 c) 0) (sym (customer_served I valid Q can j b)) in
        omega (arith, here, same)

    costs_less : cost_of I (plan_of I sites taken) ≤ cost_of I Q
    unfolding lane_cost
    costs_less =
        let ours : sum_by lane_cost (plan_of I sites taken).serves ≡ sum_by (λ j. cost_at I (server_of taken j) j) (customer_places I) = sum_served I path sites taken are lane_cost in
        let listed : Q.serves ≡ map (service_at Q) (customer_places I) = fill_by_all (service_at Q) Q.serves (length I.customers) (0, 0) (as_many_served I valid Q can) (λ k b. refl) in
        let theirs : sum_by lane_cost Q.serves ≡ sum_by (λ j. lane_cost (service_at Q j)) (customer_places I) = ap (sum_by lane_cost) listed ∙ sum_by-map lane_cost (service_at Q) (customer_places I) in
        let less : sum_by (λ j. cost_at I (server_of taken j) j) (customer_places I) ≤ sum_by (λ j. lane_cost (service_at Q j)) (customer_places I) =
        sum_by-below _ _ (customer_places I) (of_places (λ j. cost_at I (server_of taken j) j ≤ lane_cost (service_at Q j)) (length I.customers) lane_below) in
        let fixed : sum_by (fixed_of I) Q.sites ≡ sum_by (fixed_of I) (names I path hint valid) = ap (sum_by (fixed_of I)) same_sites in
        omega (arith, ours, theirs, less, fixed)

pub packed_cheapest : (I : Instance) (path : Path) (hint : List ℕ) (valid : IsValid I) → IsPathOf I path → HasNoCaps I → SettlesSites I path → (P : Plan) → packed I path hint ≡ Some P → IsCheapestIn I path P
packed_cheapest I path hint valid known no_caps settled P is =
    record {
      feasible = packed_feasible I path hint valid P is;
      in_box = packed_in_box I path hint valid P is known;
      least = λ Q can box.
          let by = packs I path hint P is in
          subst (λ R. cost_of I R ≤ cost_of I Q) by.plan (costs_less I path hint valid no_caps settled Q can box by.taken (are_taken I path hint valid P is));
    }
