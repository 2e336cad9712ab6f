-- A round made customer by customer, in the order of the places, by one who passes over those that a test does not pick.
use Rattle.std.proofs.Common.{◌≡◌, ℕ, ◌+◌, ◌<◌, ◌≤◌, refl, sym, ap, subst, ◌∙◌, arith, Bool, true, false, cond, List, [], ◌∷◌, length, ℤ, pos, negsuc, ◌≤ℤ◌, ◌<ℤ◌}
use Rattle.std.specs.Prelude.{◌||◌, not, filter}
use Rattle.std.specs.List.{fold, range_with_len}
use Rattle.std.specs.Int.{int_gap}
use Rattle.std.proofs.lemmas.Int.{ints}
use Rattle.std.proofs.lemmas.Bool.{not-true, not-false}
use Rattle.std.proofs.lemmas.List.Elements.{All-filter, All-weaker}
use Rattle.location_terms.specs.Instance.{Instance, IsValid}
use Rattle.location_terms.specs.Box.{Path}
use Rattle.location_terms.specs.Bound.{Duals, v_at, total}
use Rattle.location_terms.specs.Fit.{AreTame}
use Rattle.location_terms.specs.declared.limits.TheConstants.{MAX_VALUE}
use Rattle.location_terms.proofs.Totals.{total_le}
use Rattle.dual_ascent.specs.Levels.{customer_places}
use Rattle.dual_ascent.specs.Ascent.{is_blocked, seated, raised, round}
use Rattle.dual_ascent.specs.Steps.{HasMoved}
use Rattle.dual_ascent.proofs.Raised.{IsRisen, raised_is_risen, raised_more, raised_blocked}
use Rattle.dual_ascent.proofs.Rounds.{AreKnown, value_sum, sum_is_risen, seats_are_risen, raises_are_risen}
use Rattle.dual_ascent.proofs.Ceiling.{HasRoom, IsUnder, places_below, raised_under}
use Rattle.dual_ascent.proofs.Ends.{seats_under, round_under}
use Rattle.dual_ascent.proofs.Tame.{tame_has_room, tame_is_under, tame_rises}
use Rattle.dual_ascent.proofs.Measured.{fold_next}

-- the test that picks all
pub all_kept : (xs : List ℕ) → filter (λ _. true) xs ≡ xs
all_kept [] = refl
all_kept (x ∷ xs) = ap (λ (ys : List ℕ). x ∷ ys) (all_kept xs)

-- the way up to a limit is shorter from a greater number below it
pub gap_falls : (a b limit : ℤ) → a <ℤ b → b ≤ℤ limit → int_gap b limit < int_gap a limit
gap_falls (pos a) (pos b) (pos c) more under = omega (arith, ints)
gap_falls (pos a) (pos b) (negsuc c) more under = absurd (omega (arith, ints, under))
gap_falls (pos a) (negsuc b) c more under = absurd (omega (arith, ints, more))
gap_falls (negsuc a) (pos b) (pos c) more under = omega (arith, ints)
gap_falls (negsuc a) (pos b) (negsuc c) more under = absurd (omega (arith, ints, under))
gap_falls (negsuc a) (negsuc b) (pos c) more under = omega (arith, ints)
gap_falls (negsuc a) (negsuc b) (negsuc c) more under = omega (arith, ints)

module _ (I : Instance) (path : Path) (p : ℕ → Bool) where
  -- the customers of the first k places that the test picks
  abbrev pub first : ℕ → List ℕ
  first k = filter p (range_with_len 0 k)

  pub first_known : (k : ℕ) → k ≤ length I.customers → AreKnown I path (first k)
  first_known k b =
      All-weaker (λ j. j < k) (λ j. j < length I.customers) (λ j c. omega (arith, b, c)) (first k) (All-filter p (λ j. j < k) (range_with_len 0 k) (places_below k))

  -- the duals after the turns of the first k places, of being seated and of being raised
  abbrev pub seats : Duals → ℕ → Duals
  seats d k = fold (seated I path) d (first k)

  abbrev pub turns : Duals → ℕ → Duals
  turns d k = fold (raised I path) d (first k)

  pub seats_next : (d : Duals) (k : ℕ) → seats d (k + 1) ≡ cond (p k) (seated I path (seats d k) k) (seats d k)
  seats_next d k = fold_next (seated I path) p d k

  pub turns_next : (d : Duals) (k : ℕ) → turns d (k + 1) ≡ cond (p k) (raised I path (turns d k) k) (turns d k)
  turns_next d k = fold_next (raised I path) p d k

  -- all turns are a round
  pub turns_all : (d : Duals) → turns d (length I.customers) ≡ round I path (filter p (customer_places I)) d
  unfolding round
  turns_all d = refl

  module _ (d : Duals) (long : length d.v ≡ length I.customers) (k : ℕ) (b : k ≤ length I.customers) where
    pub seats_rise : IsRisen I path d (seats d k)
    seats_rise = seats_are_risen I path d long (first k) (first_known k b)

    pub turns_rise : IsRisen I path d (turns d k)
    turns_rise = raises_are_risen I path d long (first k) (first_known k b)

    module _ (valid : IsValid I) (tame : AreTame I d) where
      turns_under : IsUnder I path (pos MAX_VALUE) (turns d k)
      unfolding round
      turns_under = round_under I path (pos MAX_VALUE) (first k) (first_known k b) d long (tame_has_room I path valid d tame) (tame_is_under I path valid d tame)

      -- the duals between two turns are tame
      pub seats_tame : AreTame I (seats d k)
      seats_tame = tame_rises I path valid d tame (seats d k) seats_rise (seats_under I path (pos MAX_VALUE) (first k) (first_known k b) d long (tame_has_room I path valid d tame) (tame_is_under I path valid d tame))

      pub turns_tame : AreTame I (turns d k)
      turns_tame = tame_rises I path valid d tame (turns d k) turns_rise turns_under

-- the duals after one turn are tame
pub raised_tame : (I : Instance) (path : Path) → IsValid I → (d : Duals) → AreTame I d → (j : ℕ) → j < length I.customers → AreTame I (raised I path d j)
raised_tame I path valid d tame j known =
    let here : j < length d.v = omega (arith, known, tame.fit.of_instance.customers) in
    tame_rises I path valid d tame (raised I path d j) (raised_is_risen I path d j known here)
    (raised_under I path (pos MAX_VALUE) d (tame_has_room I path valid d tame) (tame_is_under I path valid d tame) j known here)

-- whether a dual rose so far, after one more turn
pub moved_next : (I : Instance) (path : Path) (d e f : Duals) (j : ℕ) (known : j < length I.customers) (here : j < length e.v) (moved rose : Bool) → f ≡ raised I path e j → rose ≡ not (is_blocked I path e j) → HasMoved I d e moved → HasMoved I d f (moved || rose)
moved_next I path d e f j known here true rose is says sooner =
    let later = sum_is_risen I path e (raised I path e j) (raised_is_risen I path e j known here) in
    subst (λ (g : Duals). value_sum I path d <ℤ value_sum I path g) (sym is) (omega (arith, ints, sooner, later))
moved_next I path d e f j known here false true is says still =
    let free : is_blocked I path e j ≡ false = not-true (is_blocked I path e j) (sym says) in
    let more = raised_more I path e j known here free in
    subst (λ (g : Duals). value_sum I path d <ℤ value_sum I path g) (sym is) (subst (λ (g : Duals). value_sum I path g <ℤ value_sum I path (raised I path e j)) still more)
moved_next I path d e f j known here false false is says still =
    let blocked : is_blocked I path e j ≡ true = not-false (is_blocked I path e j) (sym says) in
    is ∙ raised_blocked I path e j blocked ∙ still

-- what is left below a limit for all customers falls with each round that changes something
pub left_falls : (I : Instance) (path : Path) (limit : ℤ) (customers : List ℕ) → AreKnown I path customers → (d : Duals) → length d.v ≡ length I.customers → HasRoom I path limit d → IsUnder I path limit d
    → value_sum I path d <ℤ value_sum I path (round I path customers d)
    → int_gap (value_sum I path (round I path customers d)) (total (λ _. limit) (length I.customers)) < int_gap (value_sum I path d) (total (λ _. limit) (length I.customers))
left_falls I path limit customers known d long room under more =
    gap_falls (value_sum I path d) (value_sum I path (round I path customers d)) (total (λ _. limit) (length I.customers)) more
    (total_le (v_at (round I path customers d)) (λ _. limit) (length I.customers) (round_under I path limit customers known d long room under))
