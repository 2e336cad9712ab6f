-- What holds of the ascent's result, over all customers and apart from one.
use Rattle.std.proofs.Common.{◌≡◌, ◌≢◌, ℕ, ◌<◌, sym, subst, inl, inr, true, length, get_or, List}
use Rattle.std.specs.Prelude.{◌==◌, not, All, filter}
use Rattle.std.proofs.lemmas.Bool.{ne_eqb, not_from_false, eqb-false, not-true, cases_eq}
use Rattle.std.proofs.lemmas.List.Elements.{All-filter, All-weaker, filter_passes}
use Rattle.location_terms.specs.Instance.{Instance, IsValid}
use Rattle.location_terms.specs.Box.{Path}
use Rattle.location_terms.specs.Bound.{Duals, v_at}
use Rattle.location_terms.specs.Fit.{AreTame}
use Rattle.dual_ascent.specs.Levels.{customer_places}
use Rattle.dual_ascent.specs.Ascent.{is_blocked, IsBlocked, IsBlockedApart, IsAscendedOver, IsAscended, IsAscendedApart}
use Rattle.dual_ascent.specs.Kept.{Keeps}
use Rattle.dual_ascent.proofs.Picked.{all_picked, all_places}
use Rattle.dual_ascent.proofs.Raised.{IsRisen}
use Rattle.dual_ascent.proofs.Rounds.{AreKnown, bound_is_risen, ascended_is_risen, ascended_blocks}
use Rattle.dual_ascent.proofs.Ceiling.{places_below}
use Rattle.dual_ascent.proofs.Tame.{tame_ascent_ends, tame_stays}
use Rattle.dual_ascent.proofs.Kept.{IsUnserved, Spares, ascent_spares}

module _ (I : Instance) (path : Path) where
  -- all customers, and all but one
  pub all_known : AreKnown I path (customer_places I)
  all_known = places_below (length I.customers)

  abbrev pub others : ℕ → List ℕ
  others apart = filter (λ j. not (j == apart)) (customer_places I)

  pub others_known : (apart : ℕ) → AreKnown I path (others apart)
  others_known apart = All-filter (λ j. not (j == apart)) (λ j. j < length I.customers) (customer_places I) all_known

  others_differ : (apart : ℕ) → All (λ j. j ≢ apart) (others apart)
  others_differ apart =
      All-weaker (λ j. not (j == apart) ≡ true) (λ j. j ≢ apart) (λ j e. eqb-false j apart (not-true (j == apart) e)) (others apart)
      (filter_passes (λ j. not (j == apart)) (customer_places I))

  unserved_spared : (k : ℕ) → IsUnserved I path k → (j : ℕ) → Spares I path k j
  unserved_spared k none j =
      elim (cases_eq j k) [
        | inl same ↦ inr (subst (IsUnserved I path) (sym same) none)
        | inr other ↦ inl other
      ]

  module _ (valid : IsValid I) (start : Duals) (tame : AreTame I start) where
    keeps_over : (customers : List ℕ) → AreKnown I path customers → (result : Duals) → IsAscendedOver I path customers start result → Keeps I path start result
    keeps_over customers known result asc =
        let up : IsRisen I path start result = ascended_is_risen I path customers known start result tame.fit.of_instance.customers asc in
        record { form = up.form; scale = up.scale; count_price = up.count_price; prices = up.prices; tame = tame_stays I path valid start tame customers known result asc; no_lower = up.above; bound = bound_is_risen I path start result up; slacks = up.slacks; unserved = λ k none. ascent_spares I path k customers (λ i d b. unserved_spared k none (get_or customers i d)) start result asc }

    -- there is a result, it keeps all that, and every customer is blocked
    pub ascended_exists : (result : Duals) × IsAscended I path start result
    ascended_exists = tame_ascent_ends I path valid start tame (customer_places I) all_known

    pub ascended_keeps : (result : Duals) → IsAscended I path start result → Keeps I path start result
    ascended_keeps result asc = keeps_over (customer_places I) all_known result asc

    pub ascended_is_blocked : (result : Duals) → IsAscended I path start result → IsBlocked I path result
    ascended_is_blocked result asc j b =
        all_places (λ k. is_blocked I path result k ≡ true) (length I.customers) j
        (ascended_blocks I path (customer_places I) all_known start result tame.fit.of_instance.customers asc) b

    -- and so apart from one customer, whose dual stays
    pub apart_exists : (apart : ℕ) → (result : Duals) × IsAscendedApart I path apart start result
    apart_exists apart = tame_ascent_ends I path valid start tame (others apart) (others_known apart)

    pub apart_keeps : (apart : ℕ) (result : Duals) → IsAscendedApart I path apart start result → Keeps I path start result
    apart_keeps apart result asc = keeps_over (others apart) (others_known apart) result asc

    pub apart_stays : (apart : ℕ) (result : Duals) → IsAscendedApart I path apart start result → v_at result apart ≡ v_at start apart
    apart_stays apart result asc =
        ascent_spares I path apart (others apart) (All-weaker (λ j. j ≢ apart) (Spares I path apart) (λ j other. inl other) (others apart) (others_differ apart)) start result asc

    pub apart_is_blocked : (apart : ℕ) (result : Duals) → IsAscendedApart I path apart start result → IsBlockedApart I path apart result
    apart_is_blocked apart result asc j b other =
        let blocked : All (λ k. is_blocked I path result k ≡ true) (others apart) = ascended_blocks I path (others apart) (others_known apart) start result tame.fit.of_instance.customers asc in
        all_places (λ k. not (k == apart) ≡ true → is_blocked I path result k ≡ true) (length I.customers) j
        (all_picked (λ k. is_blocked I path result k ≡ true) (λ k. not (k == apart)) (customer_places I) blocked) b (not_from_false (j == apart) (ne_eqb j apart other))
