-- A customer's step as one may compute it who looks at each site once: which slacks fall, how far the dual rises, and
-- whether the customer is blocked.
use Rattle.std.proofs.Common.{◌≡◌, ◌≢◌, ℕ, ◌+◌, ◌<◌, refl, sym, ap, ◌∙◌, inl, inr, arith, Bool, true, false, cond, List, [], ◌∷◌, ◌++◌, map, length, get_or, Option, Some, None, option_map, unwrap_or, ℤ, pos, ◌+ℤ◌, ◌-ℤ◌, ◌≤ℤ◌, ◌<ℤ◌}
use Rattle.std.specs.Prelude.{◌⊎◌, ◌==◌, ⊤, All, MatchOption, filter, int_lt, int_le, if◌then◌else◌}
use Rattle.std.specs.List.{fold, list_any, range_with_len}
use Rattle.std.specs.Int.{int_max}
use Rattle.std.proofs.lemmas.Int.{ints, clamps}
use Rattle.std.proofs.lemmas.Bool.{false≢true, cases_Bool, ne_eqb, eq-eqb}
use Rattle.std.proofs.lemmas.List.{map-id}
use Rattle.std.proofs.lemmas.List.Elements.{All-map, All-filter, filter_passes}
use Rattle.std.proofs.lemmas.List.Folds.{list_any_none}
use Rattle.std.proofs.lemmas.List.FromFn.{filter_of_map_range_with_len_more}
use Rattle.std.proofs.lemmas.List.Sums.{fold-append}
use Rattle.location_terms.specs.Instance.{Instance, site_at, customer_at}
use Rattle.location_terms.specs.Box.{Path, is_allowed, is_opened}
use Rattle.location_terms.specs.Bound.{Duals, v_at, level_at, paid_at, slack_of}
use Rattle.dual_ascent.specs.Levels.{least, site_places, servers, levels_of, next_level, reached}
use Rattle.dual_ascent.specs.Ascent.{is_spent, is_blocked, lesser}
use Rattle.dual_ascent.proofs.Picked.{all_picked, all_places}
use Rattle.dual_ascent.proofs.Fair.{risen, v_here, v_other, total_changed}
use Rattle.dual_ascent.proofs.Rise.{least_among, rise, rise_positive, rise_leaves}
use Rattle.dual_ascent.proofs.Tested.{int_lt-less, int_le-less, neither, or_neither}
use Rattle.dual_ascent.proofs.Ceiling.{places_below}

-- what a customer pays after a rise of r: r more where its dual was at the level or above, as before where the level is still no lower
paid_falls : (allowed : Bool) (v r level : ℤ) → pos 0 ≤ℤ r → allowed ≡ true → level ≤ℤ v
    → (if allowed then int_max (pos 0) ((v +ℤ r) -ℤ level) else pos 0) ≡ (if allowed then int_max (pos 0) (v -ℤ level) else pos 0) +ℤ r
paid_falls true v r level low e under = omega (arith, ints, clamps)
paid_falls false v r level low e under = absurd (false≢true e)

paid_same : (allowed : Bool) (v r level : ℤ) → pos 0 ≤ℤ r → (allowed ≡ true → (v +ℤ r) ≤ℤ level)
    → (if allowed then int_max (pos 0) ((v +ℤ r) -ℤ level) else pos 0) ≡ (if allowed then int_max (pos 0) (v -ℤ level) else pos 0)
paid_same true v r level low over = let still = over refl in omega (arith, ints, clamps, still)
paid_same false v r level low over = refl

lesser_at_least : (next least_slack : Option ℤ) (v r : ℤ) → MatchOption next ⊤ (λ l. (v +ℤ r) ≤ℤ l) → MatchOption least_slack ⊤ (λ s. r ≤ℤ s)
    → pos 0 <ℤ unwrap_or (lesser (option_map (λ l. l -ℤ v) next) least_slack) (pos 0) → r ≤ℤ unwrap_or (lesser (option_map (λ l. l -ℤ v) next) least_slack) (pos 0)
lesser_at_least None None v r h k some = absurd (omega (arith, ints, some))
lesser_at_least None (Some s) v r h k some = k
lesser_at_least (Some l) None v r h k some = omega (arith, ints)
lesser_at_least (Some l) (Some s) v r h k some = omega (arith, ints, clamps)

nobody : (xs : List ℕ) → All (λ k. ⊥) xs → length xs ≡ 0
nobody [] h = refl
nobody (x ∷ xs) h = absurd (h 0 x (omega arith))

last : {X : Type 0} (step : X → ℕ → X) (b : Bool) (x : X) (k : ℕ) → fold step x (cond b (k ∷ []) []) ≡ cond b (step x k) x
last step true x k = refl
last step false x k = refl

module _ {X : Type 0} where
  -- what holds of the elements that pass, holds of the picked ones
  pub picked_all : (P Q : X → Type 0) (p : X → Bool) (xs : List X) → ((x : X) → P x → p x ≡ true → Q x) → All P xs → All Q (filter p xs)
  picked_all P Q p xs step all k x b = step (get_or (filter p xs) k x) (All-filter p P xs all k x b) (filter_passes p xs k x b)

module _ (I : Instance) (path : Path) (d : Duals) (j : ℕ) where
  module _ (r : ℤ) (low : pos 0 ≤ℤ r) (here : j < length d.v) (known : j < length I.customers) (i : ℕ) where
    paid_other : (k : ℕ) → k ≢ j → paid_at I path (risen I path d j r) i k ≡ paid_at I path d i k
    paid_other k other = ap (λ v. if is_allowed I path (site_at I i) (customer_at I k) then int_max (pos 0) (v -ℤ level_at I d i k) else pos 0) (v_other I path d j r k other)

    paid_after : paid_at I path (risen I path d j r) i j ≡ (if is_allowed I path (site_at I i) (customer_at I j) then int_max (pos 0) ((v_at d j +ℤ r) -ℤ level_at I d i j) else pos 0)
    paid_after = ap (λ v. if is_allowed I path (site_at I i) (customer_at I j) then int_max (pos 0) (v -ℤ level_at I d i j) else pos 0) (v_here I path d j r low here)

    -- the slack of a site that the dual reaches falls by r
    pub slack_falls : is_allowed I path (site_at I i) (customer_at I j) ≡ true → level_at I d i j ≤ℤ v_at d j → slack_of I path (risen I path d j r) i ≡ slack_of I path d i -ℤ r
    slack_falls allowed under =
        let changed = total_changed (paid_at I path (risen I path d j r) i) (paid_at I path d i) (length I.customers) j known (λ k _ other. paid_other k other) in
        omega (arith, ints, changed, paid_after, paid_falls (is_allowed I path (site_at I i) (customer_at I j)) (v_at d j) r (level_at I d i j) low allowed under)

    -- that of any other site stays
    pub slack_same : (is_allowed I path (site_at I i) (customer_at I j) ≡ true → (v_at d j +ℤ r) ≤ℤ level_at I d i j) → slack_of I path (risen I path d j r) i ≡ slack_of I path d i
    slack_same over =
        let changed = total_changed (paid_at I path (risen I path d j r) i) (paid_at I path d i) (length I.customers) j known (λ k _ other. paid_other k other) in
        omega (arith, ints, changed, paid_after, paid_same (is_allowed I path (site_at I i) (customer_at I j)) (v_at d j) r (level_at I d i j) low over)

  -- the lane from the site at i does not stop a rise by r
  abbrev pub Lets : ℤ → ℕ → Type 0
  Lets r i = is_allowed I path (site_at I i) (customer_at I j) ≡ true → (level_at I d i j ≤ℤ v_at d j → r ≤ℤ slack_of I path d i) × (v_at d j <ℤ level_at I d i j → (v_at d j +ℤ r) ≤ℤ level_at I d i j)

  -- the lane from the site at i stops it just there
  abbrev pub Stops : ℤ → ℕ → Type 0
  Stops r i = (is_allowed I path (site_at I i) (customer_at I j) ≡ true) × (((level_at I d i j ≤ℤ v_at d j) × (slack_of I path d i ≤ℤ r)) ⊎ ((v_at d j <ℤ level_at I d i j) × (level_at I d i j ≤ℤ (v_at d j +ℤ r))))

  module _ (free : is_blocked I path d j ≡ false) (r : ℤ) (lets : (i : ℕ) → i < length I.sites → Lets r i) where
    abbrev Held : ℕ → Type 0
    Held i = (level_at I d i j ≤ℤ v_at d j → r ≤ℤ slack_of I path d i) × (v_at d j <ℤ level_at I d i j → (v_at d j +ℤ r) ≤ℤ level_at I d i j)

    held : All Held (servers I path j)
    held = picked_all (λ i. i < length I.sites) Held (λ i. is_allowed I path (site_at I i) (customer_at I j)) (site_places I) (λ i b allowed. lets i b allowed) (places_below (length I.sites))

    next_held : MatchOption (next_level I path d j) ⊤ (λ l. (v_at d j +ℤ r) ≤ℤ l)
    next_held =
        let P : ℤ → Type 0 = λ l. v_at d j <ℤ l → (v_at d j +ℤ r) ≤ℤ l in
        let Q : ℤ → Type 0 = λ l. (v_at d j +ℤ r) ≤ℤ l in
        let higher : ℤ → Bool = λ l. int_lt (v_at d j) l in
        least_among Q (filter higher (levels_of I path d j))
        (picked_all P Q higher (levels_of I path d j) (λ l h e. h (int_lt-less (v_at d j) l e))
        (All-map P (λ i. level_at I d i j) (servers I path j) (λ k x b. (held k x b).1)))

    slacks_held : MatchOption (least (map (slack_of I path d) (reached I path d j))) ⊤ (λ s. r ≤ℤ s)
    slacks_held =
        let Q : ℤ → Type 0 = λ s. r ≤ℤ s in
        least_among Q (map (slack_of I path d) (reached I path d j))
        (All-map Q (slack_of I path d) (reached I path d j)
        (picked_all Held (λ i. r ≤ℤ slack_of I path d i) (λ i. int_le (level_at I d i j) (v_at d j)) (servers I path j) (λ i h e. h.0 (int_le-less (level_at I d i j) (v_at d j) e)) held))

    pub rise_at_least : r ≤ℤ rise I path d j
    rise_at_least = lesser_at_least (next_level I path d j) (least (map (slack_of I path d) (reached I path d j))) (v_at d j) r next_held slacks_held (rise_positive I path d j free)

    -- the rise is what every lane lets and some lane stops
    pub rise_is : (i : ℕ) → i < length I.sites → Stops r i → rise I path d j ≡ r
    rise_is i b stops =
        let up = rise_positive I path d j free in
        elim (rise_leaves I path d j free i b stops.0) [
          | inl below ↦ elim stops.1 [
            | inl at_slack ↦ let under = at_slack.0 in absurd (omega (arith, ints, up, below, under))
            | inr at_level ↦ let just = at_level.1 in omega (arith, ints, rise_at_least, below, just)
          ]
          | inr within ↦ elim stops.1 [
            | inl at_slack ↦ let just = at_slack.1 in let holds = within.2 in omega (arith, ints, rise_at_least, holds, just)
            | inr at_level ↦ let over = at_level.0 in let under = within.0 in absurd (omega (arith, ints, over, under))
          ]
        ]

  -- a site that is reached and spent blocks the customer
  pub blocked_by : (i : ℕ) → i < length I.sites → is_allowed I path (site_at I i) (customer_at I j) ≡ true → level_at I d i j ≤ℤ v_at d j → (is_opened path (site_at I i) ≡ true) ⊎ (slack_of I path d i ≤ℤ pos 0) → is_blocked I path d j ≡ true
  blocked_by i b allowed under spent =
      elim (cases_Bool (is_blocked I path d j)) [
        | inl blocked ↦ blocked
        | inr free ↦
            let up = rise_positive I path d j free in
            elim (rise_leaves I path d j free i b allowed) [
              | inl below ↦ absurd (omega (arith, ints, up, below, under))
              | inr within ↦ let holds = within.2 in elim spent [
                | inl opened ↦ absurd (false≢true (sym within.1 ∙ opened))
                | inr nothing ↦ absurd (omega (arith, ints, up, holds, nothing))
              ]
            ]
      ]

  -- a customer with an allowed lane is not blocked where no site that it reaches is spent
  pub free_from : (i : ℕ) → i < length I.sites → is_allowed I path (site_at I i) (customer_at I j) ≡ true
      → ((k : ℕ) → k < length I.sites → is_allowed I path (site_at I k) (customer_at I j) ≡ true → level_at I d k j ≤ℤ v_at d j → is_spent I path d k ≡ false)
      → is_blocked I path d j ≡ false
  free_from i b allowed fresh =
      let A : ℕ → Bool = λ k. is_allowed I path (site_at I k) (customer_at I j) in
      let some : length (servers I path j) ≢ 0 = λ none. all_places (λ k. A k ≡ true → ⊥) (length I.sites) i (all_picked (λ k. ⊥) A (site_places I) (λ k x inside. omega (arith, none, inside))) b allowed in
      let Fresh : ℕ → Type 0 = λ k. level_at I d k j ≤ℤ v_at d j → is_spent I path d k ≡ false in
      let all_fresh : All (λ k. is_spent I path d k ≡ false) (reached I path d j) =
      picked_all Fresh (λ k. is_spent I path d k ≡ false) (λ k. int_le (level_at I d k j) (v_at d j)) (servers I path j) (λ k h e. h (int_le-less (level_at I d k j) (v_at d j) e)) (picked_all (λ k. k < length I.sites) Fresh A (site_places I) (λ k c passes. fresh k c passes) (places_below (length I.sites))) in
      or_neither (length (servers I path j) == 0) (list_any (is_spent I path d) (reached I path d j)) (ne_eqb (length (servers I path j)) 0 some) (list_any_none (is_spent I path d) (reached I path d j) all_fresh)

  -- and one without an allowed lane is blocked
  pub blocked_alone : ((k : ℕ) → k < length I.sites → is_allowed I path (site_at I k) (customer_at I j) ≡ false) → is_blocked I path d j ≡ true
  blocked_alone barred =
      elim (cases_Bool (is_blocked I path d j)) [
        | inl blocked ↦ blocked
        | inr free ↦
            let none : All (λ k. ⊥) (servers I path j) = picked_all (λ k. k < length I.sites) (λ k. ⊥) (λ k. is_allowed I path (site_at I k) (customer_at I j)) (site_places I) (λ k c passes. false≢true (sym (barred k c) ∙ passes)) (places_below (length I.sites)) in
            let empty : length (servers I path j) ≡ 0 = nobody (servers I path j) none in
            absurd (false≢true (sym (neither (length (servers I path j) == 0) (list_any (is_spent I path d) (reached I path d j)) free).0 ∙ eq-eqb (length (servers I path j)) 0 empty))
      ]

-- one more customer of a round, where the test picks it
pub fold_next : {X : Type 0} (step : X → ℕ → X) (p : ℕ → Bool) (x : X) (k : ℕ) → fold step x (filter p (range_with_len 0 (k + 1))) ≡ cond (p k) (step (fold step x (filter p (range_with_len 0 k))) k) (fold step x (filter p (range_with_len 0 k)))
fold_next step p x k =
    let same : (n : ℕ) → map (λ i. i) (range_with_len 0 n) ≡ range_with_len 0 n = λ n. map-id (range_with_len 0 n) in
    let more : filter p (range_with_len 0 (k + 1)) ≡ filter p (range_with_len 0 k) ++ cond (p k) (k ∷ []) [] =
    ap (filter p) (sym (same (k + 1))) ∙ filter_of_map_range_with_len_more p (λ i. i) 0 k k (omega arith) ∙ ap (λ (ys : List ℕ). filter p ys ++ cond (p k) (k ∷ []) []) (same k) in
    ap (fold step x) more ∙ fold-append step x (filter p (range_with_len 0 k)) (cond (p k) (k ∷ []) []) ∙ last step (p k) (fold step x (filter p (range_with_len 0 k))) k
