-- What is packed where nothing is left to decide, whatever the hint: the opened sites are open, and each customer finds a lane.
use Rattle.std.proofs.Common.{◌≡◌, ℕ, ◌+◌, ◌<◌, ◌≤◌, Bool, true, false, cond, List, [], ◌∷◌, ◌++◌, length, get_or, Option, None, Some, refl, sym, ap, subst, ◌∙◌, inl, inr, arith}
use Rattle.std.specs.Prelude.{Contains, All, IsTrue, ◌&&◌, ◌||◌, ◌==◌, not, sum_by, filter, nat_le}
use Rattle.std.specs.List.{fold}
use Rattle.std.proofs.lemmas.Bool.{and_from, both_ways, leb-true, le-leb, cases_Bool, cases_eq, eqb-true, eq-eqb, false≢true}
use Rattle.std.proofs.lemmas.List.{append_assoc, length-append, length-map, get_or-map, get_or_append_left}
use Rattle.std.proofs.lemmas.List.Elements.{Contains-get_or}
use Rattle.std.proofs.lemmas.List.Sums.{sum_by-append, sum_by-cons}
use Rattle.std.proofs.lemmas.List.Sorted.{All-permutation, sum_by-IsPermutation}
use Rattle.location_terms.specs.Instance.{Instance, site_at, customer_at}
use Rattle.location_terms.specs.Plan.{Plan}
use Rattle.location_terms.specs.Box.{Path, is_called_for, is_closed, is_opened, is_free, is_allowed, holds_demand}
use Rattle.dual_ascent.specs.Levels.{site_places, customer_places, servers}
use Rattle.dual_ascent.proofs.Ceiling.{places_below}
use Rattle.dual_adjust.proofs.MoreThanOne.{two_pass}
use Rattle.dual_adjust.proofs.Violating.{server_within}
use Rattle.plan_search.specs.Packed.{is_among, opened_places, remaining, chosen, by_falling_demand, taken_at, takeable, cheapest, with_lane, taking, all_taken, plan_of, packed}
use Rattle.plan_search.proofs.Among.{Contains-filter, place-contained}
use Rattle.plan_search.proofs.Cheapest.{called_or_closed}
use Rattle.plan_search.proofs.Flagging.{passing_same}
use Rattle.plan_search.proofs.Sums.{sum_by-filter, sum_by-map, sum_by-below}
use Rattle.plan_search.proofs.Queue.{turns_move}
use Rattle.plan_search.proofs.Picked.{cheapest_some}
use Rattle.plan_search.proofs.OpenSites.{chosen_state, called_chosen}
use Rattle.plan_search.proofs.Taken.{AreTaken, none_taken, one_takes, is_takeable, holds_without}
use Rattle.dual_ascent.proofs.Walked.{lane_parts}
use Rattle.tree_search.specs.Made.{has_cap}
use Rattle.tree_search.specs.Rays.{is_forced, forced_demand, possible_count, IsRayless}
use Rattle.tree_search.specs.Working.{IsSettled}
use Rattle.tree_search.proofs.OpenPlans.{plan_by}
use Rattle.tree_search.proofs.ZeroBound.{uncapped}

opened_if : (called closed : Bool) → called ≡ true → closed ≡ false → (called && not closed) ≡ true
opened_if true false e f = refl
opened_if true true e f = cc
opened_if false closed e f = cc

not_closed_is : (called closed : Bool) → (not called && not closed) ≡ false → not closed ≡ (called && not closed)
not_closed_is true closed e = refl
not_closed_is false true e = refl
not_closed_is false false e = cc

or_is : (a b : Bool) → ((a || b) ≡ true → a ≡ true) → (a || b) ≡ a
or_is true b h = refl
or_is false true h = let wrong = h refl in cc
or_is false false h = refl

holds_less : (cap : Option ℕ) (less more : ℕ) → less ≤ more → holds_demand cap more ≡ true → holds_demand cap less ≡ true
holds_less None less more h holds = refl
holds_less (Some cap) less more h holds = let within = leb-true more cap holds in le-leb less cap (omega (arith, h, within))

carried_at_most : (here forced : Bool) (demand : ℕ) → (here ≡ true → forced ≡ true) → cond here demand 0 ≤ cond forced demand 0
carried_at_most true true demand h = omega arith
carried_at_most true false demand h = absurd (false≢true (h refl))
carried_at_most false forced demand h = omega arith

get_or_at : (xs : List ℕ) (y : ℕ) (ys : List ℕ) → get_or (xs ++ y ∷ ys) (length xs) 0 ≡ y
get_or_at [] y ys = refl
get_or_at (x ∷ xs) y ys = get_or_at xs y ys

module _ (I : Instance) (path : Path) (rayless : IsRayless I path) (settled : IsSettled I path) where
  abbrev Allowed : ℕ → ℕ → Type 0
  Allowed i j = is_allowed I path (site_at I i) (customer_at I j) ≡ true

  called : (i j : ℕ) → i < length I.sites → Allowed i j → is_called_for path (site_at I i) ≡ true
  called i j b allowed = called_or_closed (is_called_for path (site_at I i)) (is_closed path (site_at I i)) (settled.sites i b) (lane_parts I path i j allowed).2

  -- an allowed lane is from an opened site
  pub lane_opened : (i j : ℕ) → i < length I.sites → Allowed i j → is_opened path (site_at I i) ≡ true
  lane_opened i j b allowed = opened_if (is_called_for path (site_at I i)) (is_closed path (site_at I i)) (called i j b allowed) (lane_parts I path i j allowed).2

  -- where some site has a capacity, two allowed lanes of a customer are one
  pub one_lane : IsTrue (has_cap I) → (j : ℕ) → j < length I.customers → (i k : ℕ) → i < length I.sites → k < length I.sites → Allowed i j → Allowed k j → i ≡ k
  one_lane caps j b i k c d a e =
      elim (cases_eq i k) [
        | inl same ↦ same
        | inr apart ↦
            let two = two_pass (λ n. is_allowed I path (site_at I n) (customer_at I j)) (site_places I) i k (place-contained (length I.sites) i c) (place-contained (length I.sites) k d) a e apart in
            absurd (omega (arith, settled.lanes caps j b, two))
      ]

  -- a customer's only lane
  some_lane : (j : ℕ) → j < length I.customers → (i : ℕ) × (i < length I.sites) × Allowed i j
  some_lane j b =
      let inside : 0 < length (servers I path j) = omega (arith, rayless.served j b) in
      let within = server_within I path (get_or (servers I path j) 0 0) j (Contains-get_or (servers I path j) 0 0 inside) in
      (get_or (servers I path j) 0 0, within.0, within.1)

  module _ (hint : List ℕ) where
    abbrev sites : List ℕ
    sites = chosen I path hint

    opened_alone : (i : ℕ) → i < length I.sites → (is_opened path (site_at I i) || is_among (remaining I path hint) i) ≡ is_opened path (site_at I i)
    opened_alone i b =
        or_is _ _
        (λ test. elim (chosen_state I path hint i (Contains-filter (λ k. is_opened path (site_at I k) || is_among (remaining I path hint) k) (site_places I) i (place-contained (length I.sites) i b) test)) [
          | inl opened ↦ opened
          | inr free ↦ absurd (both_ways (is_free path (site_at I i)) (settled.sites i b) free)
        ])

    -- the opened sites are those that are chosen
    chosen_opened : sites ≡ opened_places I path
    chosen_opened = passing_same (λ i. is_opened path (site_at I i) || is_among (remaining I path hint) i) (λ i. is_opened path (site_at I i)) (length I.sites) opened_alone

    possible_opened : filter (λ i. not (is_closed path (site_at I i))) (site_places I) ≡ opened_places I path
    possible_opened =
        passing_same (λ i. not (is_closed path (site_at I i))) (λ i. is_opened path (site_at I i)) (length I.sites)
        (λ i b. not_closed_is (is_called_for path (site_at I i)) (is_closed path (site_at I i)) (settled.sites i b))

    count_fits : (nat_le I.lo (length sites) && nat_le (length sites) I.hi) ≡ true
    count_fits =
        let all : length sites ≡ length (opened_places I path) = ap length chosen_opened in
        let possible : possible_count I path ≡ length (opened_places I path) = ap length possible_opened in
        and_from _ _ (le-leb I.lo (length sites) (omega (arith, all, possible, rayless.enough))) (le-leb (length sites) I.hi (omega (arith, all, rayless.few)))

    pub lane_chosen : (i j : ℕ) → i < length I.sites → Allowed i j → Contains sites i
    lane_chosen i j b allowed = called_chosen I path hint i b (called i j b allowed) (lane_parts I path i j allowed).2

    module _ (caps : IsTrue (has_cap I)) where
      -- a lane that may be taken is forced
      forced : (i j : ℕ) → j < length I.customers → Allowed i j → is_forced I path i j ≡ true
      forced i j b allowed = and_from _ _ allowed (eq-eqb (length (servers I path j)) 1 (omega (arith, settled.lanes caps j b, rayless.served j b)))

      module _ (done rest : List ℕ) (j : ℕ) (taken : List (ℕ × ℕ)) (all : done ++ j ∷ rest ≡ by_falling_demand I) (are : AreTaken I path sites done taken) where
        turns_known : All (λ k. k < length I.customers) (by_falling_demand I)
        turns_known = All-permutation (λ k. k < length I.customers) (customer_places I) (by_falling_demand I) (turns_move I) (places_below (length I.customers))

        turn_known : (k d : ℕ) → k < length (done ++ j ∷ rest) → get_or (done ++ j ∷ rest) k d < length I.customers
        turn_known = subst (λ xs. All (λ k. k < length I.customers) xs) (sym all) turns_known

        taker_known : All (λ t. t.0 < length I.customers) taken
        taker_known k d b =
            let many : length taken ≡ length done = sym (length-map taken (λ t. t.0)) ∙ ap length are.customers in
            let key : get_or (done ++ j ∷ rest) k d.0 ≡ (get_or taken k d).0
            = get_or_append_left done (j ∷ rest) d.0 k (omega (arith, b, many)) ∙ ap (λ xs. get_or xs k d.0) (sym are.customers) ∙ get_or-map (λ t. t.0) taken k d d.0 b in
            subst (λ n. n < length I.customers) key (turn_known k d.0 (omega (arith, b, many, length-append done (j ∷ rest))))

        abbrev carried : ℕ → ℕ → ℕ
        carried i k = cond (is_forced I path i k) (customer_at I k).demand 0

        -- what is taken at a site with one lane more is at most what is forced there
        within_forced : (i : ℕ) → j < length I.customers → Allowed i j → taken_at I taken i + (customer_at I j).demand ≤ forced_demand I path i
        within_forced i b allowed =
            let before : taken_at I taken i ≡ sum_by (λ t. cond (t.1 == i) (customer_at I t.0).demand 0) taken = sum_by-filter (λ t. (customer_at I t.0).demand) (λ t. t.1 == i) taken in
            let less : sum_by (λ t. cond (t.1 == i) (customer_at I t.0).demand 0) taken ≤ sum_by (λ t. carried i t.0) taken =
            sum_by-below (λ t. cond (t.1 == i) (customer_at I t.0).demand 0) (λ t. carried i t.0) taken
            (λ k d c. carried_at_most ((get_or taken k d).1 == i) (is_forced I path i (get_or taken k d).0) (customer_at I (get_or taken k d).0).demand
            (λ here. forced i (get_or taken k d).0 (taker_known k d c) (subst (λ n. Allowed n (get_or taken k d).0) (eqb-true _ _ here) (are.allowed k d c)))) in
            let by_turn : sum_by (λ t. carried i t.0) taken ≡ sum_by (carried i) done = sym (sum_by-map (carried i) (λ t. t.0) taken) ∙ ap (sum_by (carried i)) are.customers in
            let parts : sum_by (carried i) (done ++ j ∷ rest) ≡ sum_by (carried i) done + sum_by (carried i) (j ∷ rest) = sum_by-append (carried i) done (j ∷ rest) in
            let head : sum_by (carried i) (j ∷ rest) ≡ carried i j + sum_by (carried i) rest = sum_by-cons (carried i) j rest in
            let here : carried i j ≡ (customer_at I j).demand = ap (λ t. cond t (customer_at I j).demand 0) (forced i j b allowed) in
            let whole : sum_by (carried i) (done ++ j ∷ rest) ≡ forced_demand I path i =
            ap (sum_by (carried i)) all ∙ sum_by-IsPermutation (carried i) (customer_places I) (by_falling_demand I) (turns_move I) ∙ sym (sum_by-filter (λ k. (customer_at I k).demand) (is_forced I path i) (customer_places I)) in
            omega (arith, before, less, by_turn, parts, head, here, whole)

        -- so that its only lane may be taken
        finds_room : (i : ℕ) × Contains (takeable I path sites taken j) i
        finds_room =
            let b : j < length I.customers = subst (λ n. n < length I.customers) (get_or_at done j rest) (turn_known (length done) 0 (omega (arith, length-append done (j ∷ rest)))) in
            let lane = some_lane j b in
            let opens = lane_opened lane.0 j lane.1 lane.2 in
            let room = holds_less (site_at I lane.0).cap (taken_at I taken lane.0 + (customer_at I j).demand) (forced_demand I path lane.0) (within_forced lane.0 b lane.2) (rayless.held lane.0 lane.1 opens) in
            (lane.0, Contains-filter (is_takeable I path sites taken j) sites lane.0 (lane_chosen lane.0 j lane.1 lane.2) (and_from _ _ lane.2 room))

    -- without capacities any allowed lane may be taken
    finds_any : has_cap I ≡ false → (j : ℕ) (taken : List (ℕ × ℕ)) → j < length I.customers → (i : ℕ) × Contains (takeable I path sites taken j) i
    finds_any none j taken b =
        let lane = some_lane j b in
        (lane.0, Contains-filter (is_takeable I path sites taken j) sites lane.0 (lane_chosen lane.0 j lane.1 lane.2) (and_from _ _ lane.2 (holds_without _ _ (uncapped I none lane.0 _ lane.1))))

    abbrev Finds : Type 0
    Finds = (done rest : List ℕ) (j : ℕ) (taken : List (ℕ × ℕ)) → done ++ j ∷ rest ≡ by_falling_demand I → AreTaken I path sites done taken → (i : ℕ) × Contains (takeable I path sites taken j) i

    finds : Finds
    finds done rest j taken all are =
        elim (cases_Bool (has_cap I)) [
          | inl caps ↦ finds_room caps done rest j taken all are
          | inr none ↦ finds_any none j taken
              (subst (λ n. n < length I.customers) (get_or_at done j rest)
              (subst (λ xs. All (λ k. k < length I.customers) xs) (sym all)
              (All-permutation (λ k. k < length I.customers) (customer_places I) (by_falling_demand I) (turns_move I) (places_below (length I.customers))) (length done) 0 (omega (arith, length-append done (j ∷ rest)))))
        ]

    -- no customer is left without a lane
    all_find_along : (js done : List ℕ) (before : List (ℕ × ℕ)) → done ++ js ≡ by_falling_demand I → AreTaken I path sites done before → fold (taking I path sites) (Some before) js ≡ None → ⊥
    all_find_along [] done before all are none = cc
    all_find_along (j ∷ js) done before all are none =
        by done before (cheapest I j (takeable I path sites before j)) refl (finds done js j before all are)
        (λ i is rest. all_find_along js (done ++ j ∷ []) (before ++ (j, i) ∷ []) (append_assoc done (j ∷ []) js ∙ all) (one_takes I path sites done before j i are is) rest) none
      where
        by : (done : List ℕ) (before : List (ℕ × ℕ)) (o : Option ℕ) → cheapest I j (takeable I path sites before j) ≡ o → (i : ℕ) × Contains (takeable I path sites before j) i
            → ((i : ℕ) → cheapest I j (takeable I path sites before j) ≡ Some i → fold (taking I path sites) (Some (before ++ (j, i) ∷ [])) js ≡ None → ⊥)
            → fold (taking I path sites) (with_lane before j o) js ≡ None → ⊥
        by done before None is found rest none = cheapest_some I j (takeable I path sites before j) found.0 found.1 is
        by done before (Some i) is found rest none = rest i is none

    pub settled_packs : (P : Plan) × (packed I path hint ≡ Some P)
    settled_packs =
        plan_by (plan_of I sites) (nat_le I.lo (length sites) && nat_le (length sites) I.hi) (all_taken I path sites) count_fits
        (all_find_along (by_falling_demand I) [] [] refl (none_taken I path sites))
