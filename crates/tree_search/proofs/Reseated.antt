-- Where each allowed lane is from an opened site the ascent from zeros ends once the duals are seated: each is its customer's least level.
use Rattle.std.proofs.Common.{◌≡◌, ◌≢◌, ℕ, zero, suc, ◌<◌, refl, sym, ap, subst, ◌∙◌, inl, inr, arith, true, length, List, [], ◌∷◌, Option, Some, None, unwrap_or, ℤ, pos, ◌≤ℤ◌}
use Rattle.std.specs.Prelude.{⊤, All, MatchOption}
use Rattle.std.specs.List.{fold}
use Rattle.std.specs.Int.{int_max}
use Rattle.std.proofs.lemmas.Bool.{cases_eq}
use Rattle.std.proofs.lemmas.Int.{ints, clamps}
use Rattle.std.proofs.lemmas.List.{length-map, get_or-set_same, get_or-set_other}
use Rattle.std.proofs.lemmas.List.Elements.{All-head, All-tail, All-map}
use Rattle.location_terms.specs.Instance.{Instance, site_at, customer_at}
use Rattle.location_terms.specs.Box.{Path, is_allowed, is_opened}
use Rattle.location_terms.specs.Bound.{Duals, v_at, level_at}
use Rattle.dual_ascent.specs.Levels.{least, site_places, customer_places, servers, levels_of, least_level}
use Rattle.dual_ascent.specs.Ascent.{is_blocked, seated, raised, round, rounds, IsAscended}
use Rattle.dual_ascent.proofs.Picked.{all_picked, all_valued, all_places}
use Rattle.dual_ascent.proofs.Rise.{least_within, least_among}
use Rattle.dual_ascent.proofs.Raised.{IsRisen, raised_blocked, seated_is_risen}
use Rattle.dual_ascent.proofs.Rounds.{AreKnown, seats_are_risen}
use Rattle.dual_ascent.proofs.Ceiling.{places_below}
use Rattle.dual_ascent.proofs.Results.{all_known}
use Rattle.dual_ascent.proofs.Measured.{picked_all, blocked_by}
use Rattle.dual_ascent.proofs.Again.{IsSeated, seats_hold}
use Rattle.tree_search.specs.Made.{AreServed}

some_least : (xs : List ℤ) → length xs ≢ 0 → least xs ≡ None → ⊥
some_least [] some none = some refl
some_least (x ∷ xs) some none = cc

-- what follows of any number from below which the dual is not, where there is a least level
pub by_seat : (o : Option ℤ) (v : ℤ) (B : Type 0) → (o ≡ None → ⊥) → MatchOption o ⊤ (λ l. l ≤ℤ v → B) → MatchOption o ⊤ (λ l. l ≤ℤ v) → B
by_seat None v B some h k = absurd (some refl)
by_seat (Some l) v B some h k = h k

seat_within : (o : Option ℤ) (v level : ℤ) → v ≤ℤ level → MatchOption o ⊥ (λ m. m ≤ℤ level) → int_max v (unwrap_or o v) ≤ℤ level
seat_within None v level low h = absurd h
seat_within (Some l) v level low h = omega (arith, ints, clamps)

module _ (I : Instance) (path : Path) where
  abbrev Allowed : ℕ → ℕ → Type 0
  Allowed j i = is_allowed I path (site_at I i) (customer_at I j) ≡ true

  module _ (e : Duals) (j : ℕ) where
    -- the least level is that of an allowed lane
    pub least_has : (P : ℤ → Type 0) → ((i : ℕ) → i < length I.sites → Allowed j i → P (level_at I e i j)) → MatchOption (least_level I path e j) ⊤ P
    least_has P each =
        least_among P (levels_of I path e j)
        (All-map P (λ i. level_at I e i j) (servers I path j)
        (picked_all (λ i. i < length I.sites) (λ i. P (level_at I e i j)) (λ i. is_allowed I path (site_at I i) (customer_at I j)) (site_places I) each (places_below (length I.sites))))

    -- and no greater than that of any
    least_below : (i : ℕ) → i < length I.sites → Allowed j i → MatchOption (least_level I path e j) ⊥ (λ m. m ≤ℤ level_at I e i j)
    least_below i b allowed =
        let Q : ℕ → Type 0 = λ k. MatchOption (least_level I path e j) ⊥ (λ m. m ≤ℤ level_at I e k j) in
        all_places (λ k. Allowed j k → Q k) (length I.sites) i
        (all_picked Q (λ k. is_allowed I path (site_at I k) (customer_at I j)) (site_places I) (all_valued (λ x. MatchOption (least_level I path e j) ⊥ (λ m. m ≤ℤ x)) (λ k. level_at I e k j) (servers I path j) (least_within (levels_of I path e j)))) b allowed

    pub least_there : length (servers I path j) ≢ 0 → least_level I path e j ≡ None → ⊥
    least_there some = some_least (levels_of I path e j) (λ none. some (sym (length-map (servers I path j) (λ i. level_at I e i j)) ∙ none))

  -- no dual is above the level of an allowed lane
  abbrev pub IsWithin : Duals → Type 0
  IsWithin e = (j : ℕ) → j < length I.customers → (i : ℕ) → i < length I.sites → Allowed j i → v_at e j ≤ℤ level_at I e i j

  seat_stays_within : (e : Duals) (j : ℕ) → j < length e.v → IsWithin e → IsWithin (seated I path e j)
  seat_stays_within e j here within k b i c allowed =
      let x : ℤ = int_max (v_at e j) (unwrap_or (least_level I path e j) (v_at e j)) in
      elim (cases_eq k j) [
        | inl same ↦
            subst (λ n. v_at (seated I path e j) n ≤ℤ level_at I e i n) (sym same)
            (subst (λ y. y ≤ℤ level_at I e i j) (sym (get_or-set_same e.v j x (pos 0) here))
            (seat_within (least_level I path e j) (v_at e j) (level_at I e i j) (within j (subst (λ n. n < length I.customers) same b) i c (subst (λ n. Allowed n i) same allowed))
            (least_below e j i c (subst (λ n. Allowed n i) same allowed))))
        | inr other ↦ subst (λ y. y ≤ℤ level_at I e i k) (sym (get_or-set_other e.v j k x (pos 0) other)) (within k b i c allowed)
      ]

  seats_stay_within : (e : Duals) → length e.v ≡ length I.customers → (js : List ℕ) → AreKnown I path js → IsWithin e → IsWithin (fold (seated I path) e js)
  seats_stay_within e long [] known within = within
  seats_stay_within e long (j ∷ js) known within =
      let in_range : j < length I.customers = All-head (λ k. k < length I.customers) j js known in
      seats_stay_within (seated I path e j) ((seated_is_risen I path e j in_range (omega (arith, in_range, long))).customers ∙ long) js (All-tail (λ k. k < length I.customers) j js known)
      (seat_stays_within e j (omega (arith, in_range, long)) within)

  module _ (served : AreServed I path) (opened : (i j : ℕ) → i < length I.sites → Allowed j i → is_opened path (site_at I i) ≡ true) where
    -- a seated customer is blocked
    pub seated_blocked : (e : Duals) (j : ℕ) → j < length I.customers → IsSeated I path e j → is_blocked I path e j ≡ true
    seated_blocked e j b seat =
        by_seat (least_level I path e j) (v_at e j) (is_blocked I path e j ≡ true) (least_there e j (served j b))
        (least_has e j (λ l. l ≤ℤ v_at e j → is_blocked I path e j ≡ true) (λ i c allowed under. blocked_by I path e j i c allowed under (inl (opened i j c allowed)))) seat

    none_rises : (e : Duals) (js : List ℕ) → AreKnown I path js → All (IsSeated I path e) js → fold (raised I path) e js ≡ e
    none_rises e [] known seats = refl
    none_rises e (j ∷ js) known seats =
        ap (λ f. fold (raised I path) f js) (raised_blocked I path e j (seated_blocked e j (All-head (λ k. k < length I.customers) j js known) (All-head (IsSeated I path e) j js seats)))
        ∙ none_rises e js (All-tail (λ k. k < length I.customers) j js known) (All-tail (IsSeated I path e) j js seats)

    round_is_same : (e : Duals) (js : List ℕ) → AreKnown I path js → All (IsSeated I path e) js → round I path js e ≡ e
    unfolding round
    round_is_same e js known seats = none_rises e js known seats

    rounds_are_same : (e : Duals) (js : List ℕ) → AreKnown I path js → All (IsSeated I path e) js → (k : ℕ) → rounds I path js e k ≡ e
    unfolding rounds
    rounds_are_same e js known seats zero = refl
    rounds_are_same e js known seats (suc k) = ap (round I path js) (rounds_are_same e js known seats k) ∙ round_is_same e js known seats

    module _ (start d : Duals) (long : length start.v ≡ length I.customers) (ascent : IsAscended I path start d) where
      abbrev seats : Duals
      seats = fold (seated I path) start (customer_places I)

      seats_are_seated : All (IsSeated I path seats) (customer_places I)
      seats_are_seated = seats_hold I path start long (customer_places I) (all_known I path)

      -- the ascent comes to what is seated
      is_seats : d ≡ seats
      is_seats = ascent.after ∙ rounds_are_same seats (customer_places I) (all_known I path) seats_are_seated ascent.count

      pub comes_from : IsRisen I path start d
      comes_from = subst (IsRisen I path start) (sym is_seats) (seats_are_risen I path start long (customer_places I) (all_known I path))

      pub comes_to_seats : (j : ℕ) → j < length I.customers → IsSeated I path d j
      comes_to_seats j b = subst (λ e. IsSeated I path e j) (sym is_seats) (all_places (IsSeated I path seats) (length I.customers) j seats_are_seated b)

      pub comes_within : IsWithin start → IsWithin d
      comes_within within = subst IsWithin (sym is_seats) (seats_stay_within start long (customer_places I) (all_known I path) within)
