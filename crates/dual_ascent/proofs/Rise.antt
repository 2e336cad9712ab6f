-- How far a customer's dual may rise: above 0 where the customer is not blocked, and no further than its lanes leave room.
use Rattle.std.proofs.Common.{◌≡◌, ℕ, ◌<◌, refl, sym, subst, inl, inr, arith, Bool, true, false, List, [], ◌∷◌, map, length, get_or, Option, Some, None, option_map, unwrap_or, ℤ, pos, ◌+ℤ◌, ◌-ℤ◌, ◌≤ℤ◌, ◌<ℤ◌}
use Rattle.std.specs.Prelude.{◌⊎◌, ◌==◌, ⊤, All, MatchOption, filter, int_lt, int_le}
use Rattle.std.specs.List.{list_any, fold}
use Rattle.std.specs.Int.{int_min}
use Rattle.std.proofs.lemmas.Int.{ints, clamps, fold-int_min_bounds, fold-int_min_reached}
use Rattle.std.proofs.lemmas.Bool.{cases_Bool, eqb-false}
use Rattle.std.proofs.lemmas.List.Elements.{All-nil, All-cons, All-head, All-tail, All-map, All-weaker, All-contains, All-get_or, filter_passes}
use Rattle.location_terms.specs.Instance.{Instance, site_at, customer_at}
use Rattle.location_terms.specs.Box.{Path, is_allowed, is_opened}
use Rattle.location_terms.specs.Bound.{Duals, v_at, level_at, slack_of}
use Rattle.dual_ascent.specs.Levels.{least, site_places, servers, levels_of, next_level, reached}
use Rattle.dual_ascent.specs.Ascent.{is_spent, is_blocked, lesser, rise_of}
use Rattle.dual_ascent.proofs.Tested.{int_lt-less, int_le-less, int_le-not, less-int_lt, neither, none_passes}
use Rattle.dual_ascent.proofs.Picked.{all_picked, all_valued, all_places}
use Rattle.dual_ascent.proofs.Fair.{Leaves}

-- where there is a least of some numbers it is at most each of them, and there is none only of none
pub least_within : (xs : List ℤ) → All (λ x. MatchOption (least xs) ⊥ (λ m. m ≤ℤ x)) xs
least_within [] = All-nil (λ x. ⊥)
least_within (x ∷ xs) =
    let bounds = fold-int_min_bounds x xs (fold int_min x xs) refl in
    All-cons (λ y. fold int_min x xs ≤ℤ y) x xs bounds.0 bounds.1

-- it is one of them
pub least_among : (P : ℤ → Type 0) (xs : List ℤ) → All P xs → MatchOption (least xs) ⊤ P
least_among P [] h = tt
least_among P (x ∷ xs) h =
    elim (fold-int_min_reached x xs (fold int_min x xs) refl) [
      | inl first ↦ subst P (sym first) (All-head P x xs h)
      | inr later ↦ All-contains P xs (fold int_min x xs) (All-tail P x xs h) later
    ]

-- the lesser of the way to the next level and of the least slack stays within both
within_next : (next least_slack : Option ℤ) (v level : ℤ) → MatchOption next ⊥ (λ l. l ≤ℤ level) → (v +ℤ unwrap_or (lesser (option_map (λ l. l -ℤ v) next) least_slack) (pos 0)) ≤ℤ level
within_next None s v level h = absurd h
within_next (Some l) None v level h = omega (arith, ints)
within_next (Some l) (Some s) v level h = omega (arith, ints, clamps)

within_slack : (way least_slack : Option ℤ) (slack : ℤ) → MatchOption least_slack ⊥ (λ s. s ≤ℤ slack) → unwrap_or (lesser way least_slack) (pos 0) ≤ℤ slack
within_slack way None slack h = absurd h
within_slack None (Some s) slack h = h
within_slack (Some w) (Some s) slack h = omega (arith, ints, clamps)

-- and it is above 0 where both are and there is one
above_zero : (next least_slack : Option ℤ) (v level slack : ℤ) → MatchOption next ⊤ (λ l. v <ℤ l) → MatchOption least_slack ⊤ (λ s. pos 0 <ℤ s)
    → (MatchOption next ⊥ (λ l. l ≤ℤ level)) ⊎ (MatchOption least_slack ⊥ (λ s. s ≤ℤ slack))
    → pos 0 <ℤ unwrap_or (lesser (option_map (λ l. l -ℤ v) next) least_slack) (pos 0)
above_zero None None v level slack h k (inl none) = absurd none
above_zero None None v level slack h k (inr none) = absurd none
above_zero None (Some s) v level slack h k some = k
above_zero (Some l) None v level slack h k some = omega (arith, ints)
above_zero (Some l) (Some s) v level slack h k some = omega (arith, ints, clamps)

module _ (I : Instance) (path : Path) (d : Duals) (j : ℕ) where
  abbrev pub rise : ℤ
  rise = unwrap_or (rise_of I path d j) (pos 0)

  abbrev slacks : List ℤ
  slacks = map (slack_of I path d) (reached I path d j)

  -- a lane that is not reached has the next level or a higher one
  next_within : All (λ i. int_lt (v_at d j) (level_at I d i j) ≡ true → MatchOption (next_level I path d j) ⊥ (λ l. l ≤ℤ level_at I d i j)) (servers I path j)
  next_within =
      let Q : ℤ → Type 0 = λ x. MatchOption (next_level I path d j) ⊥ (λ l. l ≤ℤ x) in
      let higher : ℤ → Bool = λ l. int_lt (v_at d j) l in
      all_valued (λ x. higher x ≡ true → Q x) (λ i. level_at I d i j) (servers I path j)
      (all_picked Q higher (levels_of I path d j) (least_within (filter higher (levels_of I path d j))))

  -- a site that is reached has the least slack or more
  slack_within : All (λ i. int_le (level_at I d i j) (v_at d j) ≡ true → MatchOption (least slacks) ⊥ (λ s. s ≤ℤ slack_of I path d i)) (servers I path j)
  slack_within =
      let Q : ℤ → Type 0 = λ x. MatchOption (least slacks) ⊥ (λ s. s ≤ℤ x) in
      all_picked (λ i. Q (slack_of I path d i)) (λ i. int_le (level_at I d i j) (v_at d j)) (servers I path j)
      (all_valued Q (slack_of I path d) (reached I path d j) (least_within slacks))

  next_above : MatchOption (next_level I path d j) ⊤ (λ l. v_at d j <ℤ l)
  next_above =
      let higher : ℤ → Bool = λ l. int_lt (v_at d j) l in
      least_among (λ l. v_at d j <ℤ l) (filter higher (levels_of I path d j))
      (All-weaker (λ l. higher l ≡ true) (λ l. v_at d j <ℤ l) (λ l e. int_lt-less (v_at d j) l e) (filter higher (levels_of I path d j)) (filter_passes higher (levels_of I path d j)))

  module _ (free : is_blocked I path d j ≡ false) where
    -- no site that is reached is spent
    unspent : All (λ i. is_spent I path d i ≡ false) (reached I path d j)
    unspent = none_passes (is_spent I path d) (reached I path d j) (neither (length (servers I path j) == 0) (list_any (is_spent I path d) (reached I path d j)) free).1

    slacks_positive : All (λ s. pos 0 <ℤ s) slacks
    slacks_positive =
        All-map (λ s. pos 0 <ℤ s) (slack_of I path d) (reached I path d j)
        (All-weaker (λ i. is_spent I path d i ≡ false) (λ i. pos 0 <ℤ slack_of I path d i)
        (λ i e. int_le-not (slack_of I path d i) (pos 0) (neither (is_opened path (site_at I i)) (int_le (slack_of I path d i) (pos 0)) e).1) (reached I path d j) unspent)

    pub rise_positive : pos 0 <ℤ rise
    rise_positive =
        let some : (length (servers I path j) ≡ 0 → ⊥) = eqb-false (length (servers I path j)) 0 (neither (length (servers I path j) == 0) (list_any (is_spent I path d) (reached I path d j)) free).0 in
        let some_server : 0 < length (servers I path j) = omega (arith, some) in
        let i : ℕ = get_or (servers I path j) 0 0 in
        let level : ℤ = level_at I d i j in
        let N : ℕ → Type 0 = λ k. int_lt (v_at d j) (level_at I d k j) ≡ true → MatchOption (next_level I path d j) ⊥ (λ l. l ≤ℤ level_at I d k j) in
        let S : ℕ → Type 0 = λ k. int_le (level_at I d k j) (v_at d j) ≡ true → MatchOption (least slacks) ⊥ (λ s. s ≤ℤ slack_of I path d k) in
        above_zero (next_level I path d j) (least slacks) (v_at d j) level (slack_of I path d i) next_above (least_among (λ s. pos 0 <ℤ s) slacks slacks_positive)
        (elim (cases_Bool (int_le level (v_at d j))) [
          | inl under ↦ inr (All-get_or S (servers I path j) 0 0 some_server slack_within under)
          | inr over ↦ inl (All-get_or N (servers I path j) 0 0 some_server next_within (less-int_lt (v_at d j) level over))
        ])

    -- each lane leaves room for the rise
    pub rise_leaves : (i : ℕ) → i < length I.sites → Leaves I path d j rise i
    rise_leaves i b allowed =
        let A : ℕ → Bool = λ k. is_allowed I path (site_at I k) (customer_at I j) in
        let level : ℤ = level_at I d i j in
        let N : ℕ → Type 0 = λ k. int_lt (v_at d j) (level_at I d k j) ≡ true → MatchOption (next_level I path d j) ⊥ (λ l. l ≤ℤ level_at I d k j) in
        let S : ℕ → Type 0 = λ k. int_le (level_at I d k j) (v_at d j) ≡ true → MatchOption (least slacks) ⊥ (λ s. s ≤ℤ slack_of I path d k) in
        let U : ℕ → Type 0 = λ k. int_le (level_at I d k j) (v_at d j) ≡ true → is_spent I path d k ≡ false in
        elim (cases_Bool (int_le level (v_at d j))) [
          | inl under ↦
              let slack = all_places (λ k. A k ≡ true → S k) (length I.sites) i (all_picked S A (site_places I) slack_within) b allowed under in
              let fresh = all_places (λ k. A k ≡ true → U k) (length I.sites) i (all_picked U A (site_places I) (all_picked (λ k. is_spent I path d k ≡ false) (λ k. int_le (level_at I d k j) (v_at d j)) (servers I path j) unspent)) b allowed under in
              inr (
                int_le-less level (v_at d j) under,
                (neither (is_opened path (site_at I i)) (int_le (slack_of I path d i) (pos 0)) fresh).0,
                within_slack (option_map (λ l. l -ℤ v_at d j) (next_level I path d j)) (least slacks) (slack_of I path d i) slack,
              )
          | inr over ↦
              let next = all_places (λ k. A k ≡ true → N k) (length I.sites) i (all_picked N A (site_places I) next_within) b allowed (less-int_lt (v_at d j) level over) in
              inl (within_next (next_level I path d j) (least slacks) (v_at d j) level next)
        ]
