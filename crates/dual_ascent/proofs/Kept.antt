-- Which duals the ascent leaves as they were: those of customers without an allowed lane, and those that it passes over.
use Rattle.std.proofs.Common.{◌≡◌, ◌≢◌, ℕ, zero, suc, refl, sym, ap, map, Option, None, ◌∙◌, inl, inr, arith, true, length, List, [], ◌∷◌, ℤ, pos}
use Rattle.std.specs.Prelude.{◌⊎◌, ◌==◌, All, unwrap_or}
use Rattle.std.specs.List.{fold, list_any}
use Rattle.std.specs.Int.{int_max}
use Rattle.std.proofs.lemmas.Int.{ints, clamps}
use Rattle.std.proofs.lemmas.Bool.{cases_Bool, eq-eqb}
use Rattle.std.proofs.lemmas.List.{get_or-set_other}
use Rattle.std.proofs.lemmas.List.Elements.{All-head, All-tail}
use Rattle.location_terms.specs.Instance.{Instance}
use Rattle.location_terms.specs.Box.{Path}
use Rattle.location_terms.specs.Bound.{Duals, v_at, level_at}
use Rattle.dual_ascent.specs.Levels.{least, servers, least_level, reached}
use Rattle.dual_ascent.specs.Ascent.{is_spent, is_blocked, with_v, seated, raised, round, rounds, IsAscendedOver}
use Rattle.dual_ascent.proofs.Rise.{rise}
use Rattle.dual_ascent.proofs.Fair.{with_same, v_other}
use Rattle.dual_ascent.proofs.Tested.{or_first}
use Rattle.dual_ascent.proofs.Raised.{raised_blocked, raised_free}

nothing_in : {X : Type 0} (xs : List X) → length xs ≡ 0 → xs ≡ []
nothing_in [] e = refl
nothing_in (x ∷ xs) e = absurd (omega (arith, e))

module _ (I : Instance) (path : Path) where
  -- the customer has no allowed lane
  abbrev pub IsUnserved : ℕ → Type 0
  IsUnserved j = length (servers I path j) ≡ 0

  unserved_is_blocked : (d : Duals) (j : ℕ) → IsUnserved j → is_blocked I path d j ≡ true
  unserved_is_blocked d j none = or_first (length (servers I path j) == 0) (list_any (is_spent I path d) (reached I path d j)) (eq-eqb (length (servers I path j)) 0 none)

  unserved_seat : (d : Duals) (j : ℕ) → IsUnserved j → seated I path d j ≡ d
  unserved_seat d j none =
      let no_level : least_level I path d j ≡ None = ap (λ (is : List ℕ). least (map (λ i. level_at I d i j) is)) (nothing_in (servers I path j) none) in
      let same : int_max (v_at d j) (v_at d j) ≡ v_at d j = omega (arith, ints, clamps) in
      ap (λ (o : Option ℤ). with_v d j (int_max (v_at d j) (unwrap_or o (v_at d j)))) no_level
      ∙ ap (with_v d j) same
      ∙ with_same d j

  module _ (p : ℕ) where
    -- the step of the customer at j can't touch the dual of the customer at p
    abbrev pub Spares : ℕ → Type 0
    Spares j = (j ≢ p) ⊎ IsUnserved j

    seat_spares : (d : Duals) (j : ℕ) → Spares j → v_at (seated I path d j) p ≡ v_at d p
    seat_spares d j (inr none) = ap (λ (f : Duals). v_at f p) (unserved_seat d j none)
    seat_spares d j (inl other) = get_or-set_other d.v j p (int_max (v_at d j) (unwrap_or (least_level I path d j) (v_at d j))) (pos 0) (λ e. other (sym e))

    raise_spares : (d : Duals) (j : ℕ) → Spares j → v_at (raised I path d j) p ≡ v_at d p
    raise_spares d j (inr none) = ap (λ (f : Duals). v_at f p) (raised_blocked I path d j (unserved_is_blocked d j none))
    raise_spares d j (inl other) =
        elim (cases_Bool (is_blocked I path d j)) [
          | inl blocked ↦ ap (λ (f : Duals). v_at f p) (raised_blocked I path d j blocked)
          | inr free ↦ ap (λ (f : Duals). v_at f p) (raised_free I path d j free) ∙ v_other I path d j (rise I path d j) p (λ e. other (sym e))
        ]

    fold_spares : (step : Duals → ℕ → Duals) → ((d : Duals) (j : ℕ) → Spares j → v_at (step d j) p ≡ v_at d p) → (d : Duals) (customers : List ℕ) → All Spares customers → v_at (fold step d customers) p ≡ v_at d p
    fold_spares step one d [] spares = refl
    fold_spares step one d (j ∷ js) spares = fold_spares step one (step d j) js (All-tail Spares j js spares) ∙ one d j (All-head Spares j js spares)

    module _ (customers : List ℕ) (spares : All Spares customers) where
      round_spares : (d : Duals) → v_at (round I path customers d) p ≡ v_at d p
      unfolding round
      round_spares d = fold_spares (raised I path) raise_spares d customers spares

      rounds_spare : (d : Duals) (k : ℕ) → v_at (rounds I path customers d k) p ≡ v_at d p
      unfolding rounds
      rounds_spare d zero = refl
      rounds_spare d (suc k) = round_spares (rounds I path customers d k) ∙ rounds_spare d k

      pub ascent_spares : (start result : Duals) → IsAscendedOver I path customers start result → v_at result p ≡ v_at start p
      ascent_spares start result asc =
          let seats : Duals = fold (seated I path) start customers in
          ap (λ (f : Duals). v_at f p) asc.after ∙ rounds_spare seats asc.count ∙ fold_spares (seated I path) seat_spares start customers spares
