-- A violating customer's dual has a level below it; from tame duals each candidate exists, is one, and keeps what ascents keep.
use Rattle.std.proofs.Common.{◌≡◌, ℕ, zero, suc, ◌<◌, ◌≤◌, refl, sym, ap, subst, ◌∙◌, inl, inr, arith, Bool, true, length, get_or, List, [], ◌∷◌, Option, Some, None, unwrap_or, ℤ, pos, ◌≤ℤ◌, ◌<ℤ◌}
use Rattle.std.specs.Prelude.{◌⊎◌, ◌==◌, ◌&&◌, ⊤, All, MatchOption, filter, int_lt, unsigned_abs}
use Rattle.std.specs.List.{fold, list_any}
use Rattle.std.specs.Int.{int_max}
use Rattle.std.proofs.lemmas.Int.{ints, fold-int_max_reached}
use Rattle.std.proofs.lemmas.Bool.{and_parts, ltb-true}
use Rattle.std.proofs.lemmas.List.{length-set}
use Rattle.std.proofs.lemmas.List.Elements.{All-head, All-tail, All-contains, All-map, All-get_or, All-filter, All-set, filter_passes}
use Rattle.location_terms.specs.Instance.{Instance, IsValid, site_at}
use Rattle.location_terms.specs.Box.{Path}
use Rattle.location_terms.specs.Bound.{Duals, AreDualsOf, v_at, level_at, bound_of}
use Rattle.location_terms.specs.Fit.{AreInLimits, AreTame}
use Rattle.location_terms.specs.declared.limits.TheConstants.{MAX_VALUE}
use Rattle.dual_value.proofs.Sizes.{abs_below, abs_from}
use Rattle.dual_ascent.specs.Levels.{servers, levels_of}
use Rattle.dual_ascent.specs.Ascent.{IsBlocked, IsAscended}
use Rattle.dual_ascent.proofs.Tested.{int_lt-less}
use Rattle.dual_ascent.proofs.Picked.{all_picked, all_valued}
use Rattle.dual_ascent.proofs.Rounds.{one_ascent}
use Rattle.dual_ascent.specs.Kept.{Keeps}
use Rattle.dual_ascent.proofs.Results.{others, ascended_exists, ascended_keeps, ascended_is_blocked, apart_exists, apart_keeps}
use Rattle.dual_ascent.specs.Levels.{customer_places}
use Rattle.dual_adjust.specs.Slackness.{paid_places, is_violating, tight_sites}
use Rattle.dual_adjust.specs.Adjustment.{greatest, lowered, IsCandidate, Gains}

-- the greatest of some numbers is one of them, and there is none only of none
greatest_among : (P : ℤ → Type 0) (xs : List ℤ) → All P xs → MatchOption (greatest xs) ⊤ P
greatest_among P [] h = tt
greatest_among P (x ∷ xs) h =
    elim (fold-int_max_reached x xs (fold int_max x xs) refl) [
      | inl first ↦ subst P (sym first) (All-head P x xs h)
      | inr later ↦ All-contains P xs (fold int_max x xs) (All-tail P x xs h) later
    ]

some_greatest : (xs : List ℤ) → 0 < length xs → (l : ℤ) × (greatest xs ≡ Some l)
some_greatest [] b = absurd (omega (arith, b))
some_greatest (x ∷ xs) b = (fold int_max x xs, refl)

none_of_none : {X : Type 0} (xs : List X) → (0 < length xs → ⊥) → All (λ x. ⊥) xs
none_of_none xs none k x b = none (omega (arith, b))

either_length : (n : ℕ) → (0 < n) ⊎ (0 < n → ⊥)
either_length zero = inr (λ b. omega (arith, b))
either_length (suc n) = inl (omega arith)

module _ (I : Instance) (path : Path) (d : Duals) (j : ℕ) where
  abbrev below : ℤ → Bool
  below l = int_lt l (v_at d j)

  abbrev lower_levels : List ℤ
  lower_levels = filter below (levels_of I path d j)

  -- the levels below the customer's dual are below it, and 0 or more
  lower_levels_are : All (λ l. (l <ℤ v_at d j) × (pos 0 ≤ℤ l)) lower_levels
  lower_levels_are k x b =
      let less : get_or lower_levels k x <ℤ v_at d j = int_lt-less (get_or lower_levels k x) (v_at d j) (filter_passes below (levels_of I path d j) k x b) in
      let levels_positive : All (λ l. pos 0 ≤ℤ l) (levels_of I path d j) = All-map (λ l. pos 0 ≤ℤ l) (λ i. level_at I d i j) (servers I path j) (λ _ _ _. omega (arith, ints)) in
      (less, All-filter below (λ l. pos 0 ≤ℤ l) (levels_of I path d j) levels_positive k x b)

  -- a violating customer's dual has a level below it, to which it is lowered
  pub violating_lowers : (sites : List ℕ) → is_violating I path d sites j ≡ true → (l : ℤ) × (greatest lower_levels ≡ Some l) × (l <ℤ v_at d j)
  violating_lowers sites e =
      let pays : ℕ → Bool = λ i. list_any (λ s. s == (site_at I i).id) sites && int_lt (level_at I d i j) (v_at d j) in
      let two : 1 < length (paid_places I path d sites j) = ltb-true 1 (length (paid_places I path d sites j)) e in
      elim (either_length (length lower_levels)) [
        | inl some ↦
            let found = some_greatest lower_levels some in
            let less : MatchOption (greatest lower_levels) ⊤ (λ l. l <ℤ v_at d j) = greatest_among (λ l. l <ℤ v_at d j) lower_levels (λ k x b. (lower_levels_are k x b).0) in
            (found.0, found.1, subst (λ o. MatchOption o ⊤ (λ l. l <ℤ v_at d j)) found.1 less)
        | inr none ↦
            let no_server : All (λ i. below (level_at I d i j) ≡ true → ⊥) (servers I path j) =
            all_valued (λ l. below l ≡ true → ⊥) (λ i. level_at I d i j) (servers I path j) (all_picked (λ l. ⊥) below (levels_of I path d j) (none_of_none lower_levels none)) in
            let i : ℕ = get_or (paid_places I path d sites j) 0 0 in
            let some : 0 < length (paid_places I path d sites j) = omega (arith, two) in
            let passes = All-get_or (λ k. pays k ≡ true) (paid_places I path d sites j) 0 0 some (filter_passes pays (servers I path j)) in
            let not_below = All-get_or (λ k. below (level_at I d k j) ≡ true → ⊥) (paid_places I path d sites j) 0 0 some (All-filter pays (λ k. below (level_at I d k j) ≡ true → ⊥) (servers I path j) no_server) in
            absurd (not_below (and_parts (list_any (λ s. s == (site_at I i).id) sites) (int_lt (level_at I d i j) (v_at d j)) passes).1)
      ]

  lowered_small : (o : Option ℤ) → MatchOption o ⊤ (λ l. (l <ℤ v_at d j) × (pos 0 ≤ℤ l)) → unsigned_abs (v_at d j) ≤ MAX_VALUE → unsigned_abs (unwrap_or o (v_at d j)) ≤ MAX_VALUE
  lowered_small None h small = small
  lowered_small (Some l) h small =
      let high = abs_below (v_at d j) MAX_VALUE small in
      let less = h.0 in
      let low = h.1 in
      abs_from l MAX_VALUE (omega (arith, ints, high, less)) (omega (arith, ints, low))

  module _ (valid : IsValid I) (tame : AreTame I d) (known : j < length I.customers) where
    lowered_value_small : unsigned_abs (unwrap_or (greatest lower_levels) (v_at d j)) ≤ MAX_VALUE
    lowered_value_small =
        let inside : j < length d.v = omega (arith, known, tame.fit.of_instance.customers) in
        lowered_small (greatest lower_levels) (greatest_among (λ l. (l <ℤ v_at d j) × (pos 0 ≤ℤ l)) lower_levels lower_levels_are) (tame.fit.in_limits.values j (pos 0) inside)

    -- the level to which it is lowered is within the limits
    pub lower_level_small : (l : ℤ) → greatest lower_levels ≡ Some l → unsigned_abs l ≤ MAX_VALUE
    lower_level_small l is = subst (λ o. unsigned_abs (unwrap_or o (v_at d j)) ≤ MAX_VALUE) is lowered_value_small

    pub lowered_is_tame : AreTame I (lowered I path d j)
    lowered_is_tame =
        let value : ℤ = unwrap_or (greatest lower_levels) (v_at d j) in
        let small : unsigned_abs value ≤ MAX_VALUE = lowered_value_small in
        let in_limits : AreInLimits (lowered I path d j) =
        record { scale = tame.fit.in_limits.scale; count_price = tame.fit.in_limits.count_price; values = All-set (λ v. unsigned_abs v ≤ MAX_VALUE) d.v j value small tame.fit.in_limits.values; multipliers = tame.fit.in_limits.multipliers } in
        let of_instance : AreDualsOf I (lowered I path d j) =
        record { customers = length-set d.v j value ∙ tame.fit.of_instance.customers; sites = tame.fit.of_instance.sites; unpriced = tame.fit.of_instance.unpriced } in
        record { fit = record { in_limits = in_limits; of_instance = of_instance }; scaled = tame.scaled; count_price = tame.count_price; demand_prices = tame.demand_prices }

    -- there is a candidate
    pub candidate_exists : (e : Duals) × IsCandidate I path d j e
    candidate_exists =
        let first = apart_exists I path valid (lowered I path d j) lowered_is_tame j in
        let kept : Keeps I path (lowered I path d j) first.0 = apart_keeps I path valid (lowered I path d j) lowered_is_tame j first.0 first.1 in
        let second = ascended_exists I path valid first.0 kept.tame in
        (second.0, (first.0, first.1, second.1))

    -- it has the form, the scale and the prices of the duals, is tame, and its customers are blocked
    pub candidate_keeps : (e : Duals) → IsCandidate I path d j e → (e.form ≡ d.form) × (e.q ≡ d.q) × (e.nu ≡ d.nu) × (e.u ≡ d.u) × AreTame I e × IsBlocked I path e
    candidate_keeps e is_candidate =
        let one : Keeps I path (lowered I path d j) is_candidate.0 = apart_keeps I path valid (lowered I path d j) lowered_is_tame j is_candidate.0 is_candidate.1 in
        let two : Keeps I path is_candidate.0 e = ascended_keeps I path valid is_candidate.0 one.tame e is_candidate.2 in
        (two.form ∙ one.form, two.scale ∙ one.scale, two.count_price ∙ one.count_price, two.prices ∙ one.prices, two.tame, ascended_is_blocked I path valid is_candidate.0 one.tame e is_candidate.2)

  -- there is one candidate
  pub one_candidate : (a b : Duals) → IsCandidate I path d j a → IsCandidate I path d j b → a ≡ b
  one_candidate a b first second =
      let same : second.0 ≡ first.0 = one_ascent I path (others I path j) (lowered I path d j) second.0 first.0 second.1 first.1 in
      one_ascent I path (customer_places I) first.0 a b first.2 (subst (λ f. IsAscended I path f b) same second.2)

-- no step gains where each violating customer's candidate has no greater bound
pub no_gain : (I : Instance) (path : Path) (d : Duals)
    → ((j : ℕ) → j < length I.customers → is_violating I path d (tight_sites I path d) j ≡ true → (e : Duals) × IsCandidate I path d j e × (bound_of I path e ≤ℤ bound_of I path d))
    → Gains I path d → ⊥
no_gain I path d none gains =
    let found = none gains.customer gains.within gains.violating in
    let same : found.0 ≡ gains.candidate = one_candidate I path d gains.customer found.0 gains.candidate found.1 gains.is_candidate in
    let no_more = found.2 in
    let more = gains.greater in
    omega (arith, ints, no_more, more, ap (bound_of I path) same)
