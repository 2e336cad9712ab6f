-- The plan of what is taken, where each customer took one lane: who serves whom, what a site carries and what it costs.
use Rattle.std.proofs.Common.{◌≡◌, ℕ, ◌<◌, Bool, cond, List, map, length, get_or, Option, None, Some, option_map, unwrap_or, refl, sym, ap, subst, inl, inr, ◌∙◌, zero-add, arith}
use Rattle.std.specs.Prelude.{Contains, All, ◌==◌, sum_by, find}
use Rattle.std.proofs.lemmas.Bool.{eq-eqb, ne_eqb, cases_eq}
use Rattle.std.proofs.lemmas.List.{length-map, get_or-map, get_or_default}
use Rattle.std.proofs.lemmas.List.FromFn.{get_or-range_with_len, length-range_with_len}
use Rattle.std.proofs.lemmas.List.Recursion.{found_at}
use Rattle.std.proofs.lemmas.List.Sorted.{Contains-permutation, IsPermutation-sym, sum_by-IsPermutation}
use Rattle.location_terms.specs.Instance.{Instance, IsValid, site_at, customer_at, demand_of}
use Rattle.location_terms.specs.Plan.{load_of}
use Rattle.location_terms.specs.Box.{Path}
use Rattle.location_terms.proofs.Places.{demand_of-customer_at}
use Rattle.location_terms.proofs.Rising.{place_of, one_place}
use Rattle.dual_ascent.specs.Levels.{customer_places}
use Rattle.plan_search.specs.Packed.{by_falling_demand, taken_at, plan_of}
use Rattle.plan_search.specs.Packing.{ArePairs}
use Rattle.plan_search.proofs.Among.{place-contained, contained-place, of_places}
use Rattle.plan_search.proofs.Sums.{sum_by-filter, sum_by-map, sum_by-agree, filter_map-all}
use Rattle.plan_search.proofs.Queue.{turns_move, turns_apart}
use Rattle.plan_search.proofs.Taken.{AreTaken}

-- the site that serves the customer, by place
abbrev pub server_of : List (ℕ × ℕ) → ℕ → ℕ
server_of taken j = (unwrap_or (find (λ (t : ℕ × ℕ). t.0 == j) taken) (0, 0)).1

module _ (I : Instance) (path : Path) (sites : List ℕ) (taken : List (ℕ × ℕ)) (are : AreTaken I path sites (by_falling_demand I) taken) where
  key_at : (k : ℕ) (d : ℕ × ℕ) → k < length taken → get_or (by_falling_demand I) k d.0 ≡ (get_or taken k d).0
  key_at k d b = ap (λ xs. get_or xs k d.0) (sym are.customers) ∙ get_or-map (λ t. t.0) taken k d d.0 b

  as_many : length taken ≡ length (by_falling_demand I)
  as_many = sym (length-map taken (λ t. t.0)) ∙ ap length are.customers

  keys_apart : (i k : ℕ) (d : ℕ × ℕ) → i < k → k < length taken → (get_or taken i d).0 ≡ (get_or taken k d).0 → ⊥
  keys_apart i k d before b same =
      turns_apart I i k d.0 before (omega (arith, as_many)) (key_at i d (omega arith) ∙ same ∙ sym (key_at k d b))

  pub are_pairs : ((i : ℕ) → Contains sites i → i < length I.sites) → ArePairs I taken
  are_pairs below =
      record {
        known = λ k d b.
            let turn : Contains (by_falling_demand I) (get_or taken k d).0 = (k, omega (arith, b, as_many), get_or_default (by_falling_demand I) k (get_or taken k d).0 d.0 (omega (arith, b, as_many)) ∙ key_at k d b) in
            let place : Contains (customer_places I) (get_or taken k d).0 = Contains-permutation (by_falling_demand I) (customer_places I) (get_or taken k d).0 (IsPermutation-sym (customer_places I) (by_falling_demand I) (turns_move I)) turn in
            (contained-place (length I.customers) (get_or taken k d).0 place, below (get_or taken k d).1 (are.chosen k d b));
        apart = λ i k d before b. keys_apart i k d before b;
      }

  -- what a customer took is found by its place
  found : (k : ℕ) (d : ℕ × ℕ) → k < length taken → find (λ (t : ℕ × ℕ). t.0 == (get_or taken k d).0) taken ≡ Some (get_or taken k d)
  found k d b =
      let p : ℕ × ℕ → Bool = λ t. t.0 == (get_or taken k d).0 in
      found_at (λ ys. find p ys) p Some None refl (λ _ _. refl) taken k d b
      (λ i before. ne_eqb (get_or taken i d).0 (get_or taken k d).0 (keys_apart i k d before b))
      (eq-eqb (get_or taken k d).0 (get_or taken k d).0 refl)

  server-taken : (k : ℕ) (d : ℕ × ℕ) → k < length taken → server_of taken (get_or taken k d).0 ≡ (get_or taken k d).1
  server-taken k d b = ap (λ (o : Option (ℕ × ℕ)). (unwrap_or o (0, 0)).1) (found k d b)

  -- a customer took a lane from its server
  pub took : (j : ℕ) → j < length I.customers → (k : ℕ) × (k < length taken) × (get_or taken k (0, 0) ≡ (j, server_of taken j))
  took j b =
      let turn : Contains (by_falling_demand I) j = Contains-permutation (customer_places I) (by_falling_demand I) j (turns_move I) (place-contained (length I.customers) j b) in
      let at : (k : ℕ) × (k < length taken) × ((get_or taken k (0, 0)).0 ≡ j) = place_of (λ t. t.0) taken (0, 0) j (subst (λ xs. Contains xs j) (sym are.customers) turn) in
      let pair : ℕ × ℕ = get_or taken at.0 (0, 0) in
      let server : server_of taken j ≡ pair.1 = ap (server_of taken) (sym at.2) ∙ server-taken at.0 (0, 0) at.1 in
      (at.0, at.1, ap (λ n. (n, pair.1)) at.2 ∙ ap (λ n. (j, n)) (sym server))

  pub of_server : (P : ℕ × ℕ → Type 0) → All P taken → (j : ℕ) → j < length I.customers → P (j, server_of taken j)
  of_server P all j b = let t = took j b in subst P t.2 (all t.0 (0, 0) t.1)

  found_pair : (j : ℕ) → j < length I.customers → find (λ (t : ℕ × ℕ). t.0 == j) taken ≡ Some (j, server_of taken j)
  found_pair j b =
      let t = took j b in
      let key : (get_or taken t.0 (0, 0)).0 ≡ j = ap (λ (u : ℕ × ℕ). u.0) t.2 in
      subst (λ n. find (λ (u : ℕ × ℕ). u.0 == n) taken ≡ Some (get_or taken t.0 (0, 0))) key (found t.0 (0, 0) t.1) ∙ ap Some t.2

  -- the pair of ids by which the plan serves a customer
  abbrev pub service : ℕ → ℕ × ℕ
  service j = ((customer_at I j).id, (site_at I (server_of taken j)).id)

  serves_are : (plan_of I sites taken).serves ≡ map service (customer_places I)
  serves_are =
      filter_map-all (λ j. option_map (λ (t : ℕ × ℕ). ((customer_at I j).id, (site_at I t.1).id)) (find (λ (t : ℕ × ℕ). t.0 == j) taken)) service (customer_places I)
      (of_places (λ j. option_map (λ (t : ℕ × ℕ). ((customer_at I j).id, (site_at I t.1).id)) (find (λ (t : ℕ × ℕ). t.0 == j) taken) ≡ Some (service j)) (length I.customers)
      (λ j b. ap (option_map (λ (t : ℕ × ℕ). ((customer_at I j).id, (site_at I t.1).id))) (found_pair j b)))

  pub as_many_served : length (plan_of I sites taken).serves ≡ length I.customers
  as_many_served = ap length serves_are ∙ length-map (customer_places I) service ∙ length-range_with_len 0 (length I.customers)

  pub served_at : (j : ℕ) (d : ℕ × ℕ) → j < length I.customers → get_or (plan_of I sites taken).serves j d ≡ service j
  served_at j d b =
      ap (λ vs. get_or vs j d) serves_are ∙ get_or-map service (customer_places I) j 0 d (omega (arith, length-range_with_len 0 (length I.customers)))
      ∙ ap service (get_or-range_with_len 0 (length I.customers) j 0 b ∙ zero-add j)

  -- what holds of all that is served
  pub of_served : (P : ℕ × ℕ → Type 0) → ((j : ℕ) → j < length I.customers → P (service j)) → All P (plan_of I sites taken).serves
  of_served P each j d b = let inside : j < length I.customers = omega (arith, as_many_served) in subst P (sym (served_at j d inside)) (each j inside)

  pub served_contained : (v : ℕ × ℕ) → Contains (plan_of I sites taken).serves v → (j : ℕ) × (j < length I.customers) × (service j ≡ v)
  served_contained v c = let inside : c.0 < length I.customers = omega (arith, c.1, as_many_served) in (c.0, inside, sym (served_at c.0 v inside) ∙ c.2)

  -- a sum over all that is served, by the customers' places
  pub sum_served : (f : ℕ × ℕ → ℕ) → sum_by f (plan_of I sites taken).serves ≡ sum_by (λ j. f (service j)) (customer_places I)
  sum_served f = ap (sum_by f) serves_are ∙ sum_by-map f service (customer_places I)

  module _ (valid : IsValid I) (below : (i : ℕ) → Contains sites i → i < length I.sites) where
    server_below : (j : ℕ) → j < length I.customers → server_of taken j < length I.sites
    server_below j b = below _ (of_server (λ t. Contains sites t.1) are.chosen j b)

    same_server : (i j : ℕ) → i < length I.sites → j < length I.customers → ((site_at I (server_of taken j)).id == (site_at I i).id) ≡ (server_of taken j == i)
    same_server i j b c =
        elim (cases_eq (server_of taken j) i) [
          | inl same ↦ eq-eqb _ _ (ap (λ n. (site_at I n).id) same) ∙ sym (eq-eqb _ _ same)
          | inr other ↦ ne_eqb _ _ (λ e. other (one_place (λ s. s.id) I.sites _ valid.sites_named.rising _ _ (server_below j c) b e)) ∙ sym (ne_eqb _ _ other)
        ]

    -- the plan's load of a site is what is taken there
    pub load_is_taken : (i : ℕ) → i < length I.sites → load_of I (plan_of I sites taken) (site_at I i).id ≡ taken_at I taken i
    load_is_taken i b =
        let s : ℕ = (site_at I i).id in
        let carried : ℕ → ℕ = λ j. cond (server_of taken j == i) (customer_at I j).demand 0 in
        sum_by-filter (λ v. demand_of I v.0) (λ v. v.1 == s) (plan_of I sites taken).serves
        ∙ sum_served (λ v. cond (v.1 == s) (demand_of I v.0) 0)
        ∙ sum_by-agree (λ j. cond ((service j).1 == s) (demand_of I (service j).0) 0) carried (customer_places I)
        (of_places (λ j. cond ((service j).1 == s) (demand_of I (service j).0) 0 ≡ carried j) (length I.customers)
        (λ j c. ap (λ t. cond t (demand_of I (customer_at I j).id) 0) (same_server i j b c) ∙ ap (λ n. cond (server_of taken j == i) n 0) (demand_of-customer_at I j valid.customers_named.rising c)))
        ∙ sym (sum_by-IsPermutation carried (customer_places I) (by_falling_demand I) (turns_move I))
        ∙ ap (sum_by carried) (sym are.customers)
        ∙ sum_by-map carried (λ t. t.0) taken
        ∙ sum_by-agree (λ t. carried t.0) (λ t. cond (t.1 == i) (customer_at I t.0).demand 0) taken
        (λ k d c. ap (λ n. cond (n == i) (customer_at I (get_or taken k d).0).demand 0) (server-taken k d c))
        ∙ sym (sum_by-filter (λ t. (customer_at I t.0).demand) (λ t. t.1 == i) taken)
