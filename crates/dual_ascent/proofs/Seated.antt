-- The least level of a customer, as a walk over its lanes finds it.
use Rattle.std.proofs.Common.{◌≡◌, ℕ, ◌+◌, ◌*◌, ◌<◌, ◌≤◌, refl, sym, ap, subst, ◌∙◌, inl, inr, arith, Bool, true, false, List, length, get_or, Option, Some, None, unwrap_or, ℤ, pos, ◌+ℤ◌, ◌≤ℤ◌, ◌<ℤ◌}
use mir.Syntax.{w128}
use mir.Val.{to_z, of_z}
use Rattle.std.specs.Prelude.{⊤, All, MatchOption, unsigned_abs, int_lt}
use Rattle.std.specs.Int.{int_min, int_max}
use Rattle.std.proofs.lemmas.Int.{ints, clamps}
use Rattle.std.proofs.lemmas.Nat.{mul-le}
use Rattle.std.proofs.lemmas.Bool.{false≢true, cases_lt}
use Rattle.std.proofs.lemmas.List.Elements.{All-map}
use Rattle.location_terms.specs.Instance.{Instance, IsValid, site_at, customer_at, lane}
use Rattle.location_terms.specs.Box.{Path, is_allowed}
use Rattle.location_terms.specs.Bound.{Duals, v_at, u_at, level_at}
use Rattle.location_terms.specs.Fit.{DualsFit}
use Rattle.location_terms.specs.declared.limits.TheConstants.{MAX_AMOUNT, MAX_SCALE, MAX_MULTIPLIER}
use Rattle.lane_order.specs.declared.order.PlacedLane.{PlacedLane}
use Rattle.dual_ascent.specs.Levels.{site_places, servers, levels_of, least_level}
use Rattle.dual_ascent.specs.Ascent.{lesser, with_v, seated}
use Rattle.dual_ascent.proofs.Picked.{all_picked, all_valued, all_places}
use Rattle.dual_ascent.proofs.Fair.{with_same}
use Rattle.dual_ascent.proofs.Rise.{least_within, least_among}
use Rattle.dual_ascent.proofs.Measured.{picked_all}
use Rattle.dual_ascent.proofs.Ceiling.{places_below}
use Rattle.dual_ascent.proofs.Looked.{cases_le}
use Rattle.dual_value.proofs.Sizes.{kept}
use Rattle.dual_ascent.proofs.Tested.{int_lt-less, int_lt-not}
use Rattle.dual_ascent.proofs.Sized.{level_size, value_bits}
use Rattle.dual_ascent.specs.Walk.{IsLaneWalk}
use Rattle.dual_ascent.proofs.Walked.{IsPassed, passed_more, served_is_placed}

between : (o : Option ℤ) (l : ℤ) → MatchOption o ⊥ (λ m. m ≤ℤ l) → MatchOption o ⊤ (λ m. l ≤ℤ m) → o ≡ Some l
between None l h k = absurd h
between (Some m) l h k = let same : m ≡ l = omega (arith, ints, h, k) in ap (λ (x : ℤ). Some x) same

nothing : (o : Option ℤ) → MatchOption o ⊤ (λ m. ⊥) → o ≡ None
nothing None h = refl
nothing (Some m) h = absurd h

far_level : (l : ℤ) (a b c : ℕ) → (pos 0 +ℤ l) ≤ℤ pos a → a ≤ b → l ≤ℤ pos (b + c)
far_level l a b c h k = omega (arith, ints)

module _ (I : Instance) (path : Path) (d : Duals) (j : ℕ) where
  abbrev Allowed : ℕ → Type 0
  Allowed i = is_allowed I path (site_at I i) (customer_at I j) ≡ true

  -- what holds of the levels of all allowed lanes holds of the least
  least_has : (P : ℤ → Type 0) → ((i : ℕ) → i < length I.sites → Allowed i → P (level_at I d i j)) → MatchOption (least_level I path d j) ⊤ P
  least_has P each =
      let over : All (λ i. P (level_at I d i j)) (servers I path j) = picked_all (λ i. i < length I.sites) (λ i. P (level_at I d i j)) (λ i. is_allowed I path (site_at I i) (customer_at I j)) (site_places I) each (places_below (length I.sites)) in
      least_among P (levels_of I path d j) (All-map P (λ i. level_at I d i j) (servers I path j) over)

  least_below : (i : ℕ) → i < length I.sites → Allowed i → MatchOption (least_level I path d j) ⊥ (λ m. m ≤ℤ level_at I d i j)
  least_below i b allowed =
      let A : ℕ → Bool = λ k. is_allowed I path (site_at I k) (customer_at I j) in
      let Q : ℕ → Type 0 = λ k. MatchOption (least_level I path d j) ⊥ (λ m. m ≤ℤ level_at I d k j) in
      all_places (λ k. A k ≡ true → Q k) (length I.sites) i
      (all_picked Q A (site_places I) (all_valued (λ x. MatchOption (least_level I path d j) ⊥ (λ m. m ≤ℤ x)) (λ k. level_at I d k j) (servers I path j) (least_within (levels_of I path d j)))) b allowed

  -- this is the level of some allowed lane
  pub record IsLevel (l : ℤ) : Type 0 where
    pub site : ℕ
    pub within : site < length I.sites
    pub allowed : Allowed site
    pub is : level_at I d site j ≡ l

  -- what is known of the least level of some sites
  abbrev pub IsLeastOf : (ℕ → Type 0) → Option ℤ → Type 0
  IsLeastOf Seen None = (i : ℕ) → Seen i → is_allowed I path (site_at I i) (customer_at I j) ≡ false
  IsLeastOf Seen (Some l) = IsLevel l × ((i : ℕ) → Seen i → Allowed i → l ≤ℤ level_at I d i j)

  least_is : (Seen : ℕ → Type 0) → ((i : ℕ) → i < length I.sites → Allowed i → Seen i) → (o : Option ℤ) → IsLeastOf Seen o → o ≡ least_level I path d j
  least_is Seen all None barred = sym (nothing (least_level I path d j) (least_has (λ m. ⊥) (λ i b allowed. false≢true (sym (barred i (all i b allowed)) ∙ allowed))))
  least_is Seen all (Some l) (level, low) =
      let below : MatchOption (least_level I path d j) ⊥ (λ m. m ≤ℤ l) = subst (λ x. MatchOption (least_level I path d j) ⊥ (λ m. m ≤ℤ x)) level.is (least_below level.site level.within level.allowed) in
      sym (between (least_level I path d j) l below (least_has (λ m. l ≤ℤ m) (λ i b allowed. low i (all i b allowed) allowed)))

  module _ (lanes : List PlacedLane) (walk : IsLaneWalk I j lanes) where
    pub none_seen : IsLeastOf (IsPassed lanes 0) None
    none_seen i (m, b, at) = absurd (omega (arith, b))

    pub barred_passed : (least : Option ℤ) (k : ℕ) (e : PlacedLane) → IsLeastOf (IsPassed lanes k) least → is_allowed I path (site_at I (get_or lanes k e).site) (customer_at I j) ≡ false → IsLeastOf (IsPassed lanes (k + 1)) least
    barred_passed None k e before barred = passed_more (λ i. is_allowed I path (site_at I i) (customer_at I j) ≡ false) lanes k e before barred
    barred_passed (Some l) k e (level, low) barred = (level, passed_more (λ i. Allowed i → l ≤ℤ level_at I d i j) lanes k e low (λ allowed. absurd (false≢true (sym barred ∙ allowed))))

    pub level_passed : (least : Option ℤ) (k : ℕ) (e : PlacedLane) → k < length lanes → IsLeastOf (IsPassed lanes k) least → Allowed (get_or lanes k e).site → (l x : ℤ) → l ≡ level_at I d (get_or lanes k e).site j → Some x ≡ lesser least (Some l) → IsLeastOf (IsPassed lanes (k + 1)) (Some x)
    level_passed None k e inside barred allowed l x is lesser_is =
        let same : x ≡ l = cc in
        (record { site = (get_or lanes k e).site; within = walk.within k e inside; allowed = allowed; is = sym (same ∙ is) }, passed_more (λ i. Allowed i → x ≤ℤ level_at I d i j) lanes k e (λ i seen passes. absurd (false≢true (sym (barred i seen) ∙ passes))) (λ _. omega (arith, ints, same, is)))
    level_passed (Some s) k e inside (level, low) allowed l x is lesser_is =
        let same : x ≡ int_min s l = cc in
        let lower : x ≤ℤ s = omega (arith, ints, clamps) in
        let lowest : (i : ℕ) → IsPassed lanes k i → Allowed i → x ≤ℤ level_at I d i j = λ i seen passes. let most = low i seen passes in omega (arith, ints, lower, most) in
        let here : x ≤ℤ level_at I d (get_or lanes k e).site j = omega (arith, ints, clamps) in
        let known : IsLevel x = elim (cases_le s l) [
          | inl less ↦ let old : s ≡ x = omega (arith, ints, clamps) in record { site = level.site; within = level.within; allowed = level.allowed; is = level.is ∙ old }
          | inr more ↦ let new : level_at I d (get_or lanes k e).site j ≡ x = omega (arith, ints, clamps) in record { site = (get_or lanes k e).site; within = walk.within k e inside; allowed = allowed; is = new }
        ] in
        (known, passed_more (λ i. Allowed i → x ≤ℤ level_at I d i j) lanes k e lowest (λ _. here))

    pub level_cut : (least : Option ℤ) (k : ℕ) (e : PlacedLane) → IsLeastOf (IsPassed lanes k) least → MatchOption least ⊥ (λ l. (pos 0 +ℤ l) ≤ℤ pos (d.q * (get_or lanes k e).cost)) → least ≡ least_level I path d j
    level_cut None k e known far = absurd far
    level_cut (Some l) k e (level, low) far =
        let later : (i : ℕ) → i < length I.sites → Allowed i → l ≤ℤ level_at I d i j = λ i b allowed.
        let at = served_is_placed I path j lanes walk i b allowed in
        elim (cases_lt at.0 k) [
          | inl below ↦ low i (at.0, below, at.2) allowed
          | inr past ↦
              let m = at.0 in
              let inside = at.1 in
              let cost : unwrap_or (lane I (site_at I i).id (customer_at I j).id) 0 ≡ (get_or lanes m e).cost = ap (λ s. unwrap_or (lane I (site_at I s).id (customer_at I j).id) 0) (sym (at.2 e)) ∙ ap (λ (o : Option ℕ). unwrap_or o 0) (walk.is_lane m e inside) in
              let more : d.q * (get_or lanes k e).cost ≤ d.q * unwrap_or (lane I (site_at I i).id (customer_at I j).id) 0 = mul-le d.q (get_or lanes k e).cost d.q (unwrap_or (lane I (site_at I i).id (customer_at I j).id) 0) (omega arith) (omega (arith, cost, walk.rising k m e past inside)) in
              far_level l (d.q * (get_or lanes k e).cost) (d.q * unwrap_or (lane I (site_at I i).id (customer_at I j).id) 0) (u_at d i * (customer_at I j).demand) far more
        ] in
        least_is (λ i. (i < length I.sites) × Allowed i) (λ i b allowed. (b, allowed)) (Some l) (level, λ i seen _. later i seen.0 seen.1)

    pub level_end : (least : Option ℤ) (k : ℕ) → k ≡ length lanes → IsLeastOf (IsPassed lanes k) least → least ≡ least_level I path d j
    level_end least k all known =
        let seen : IsLeastOf (IsPassed lanes (length lanes)) least = subst (λ n. IsLeastOf (IsPassed lanes n) least) all known in
        least_is (IsPassed lanes (length lanes)) (λ i b allowed. served_is_placed I path j lanes walk i b allowed) least seen

  -- the least level is as small as levels are
  pub least_size : IsValid I → DualsFit I d → j < length I.customers → (l : ℤ) → least_level I path d j ≡ Some l → unsigned_abs l ≤ MAX_SCALE * MAX_AMOUNT + MAX_MULTIPLIER * MAX_AMOUNT
  least_size valid fit customer l is =
      let Small : ℤ → Type 0 = λ m. unsigned_abs m ≤ MAX_SCALE * MAX_AMOUNT + MAX_MULTIPLIER * MAX_AMOUNT in
      subst (λ (o : Option ℤ). MatchOption o ⊤ Small) is (least_has Small (λ i b _. level_size I path d valid fit i j b customer))

  -- what seating does, by the least level
  pub seats_none : least_level I path d j ≡ None → seated I path d j ≡ d
  seats_none is =
      let same : int_max (v_at d j) (v_at d j) ≡ v_at d j = omega (arith, ints, clamps) in
      ap (λ (o : Option ℤ). with_v d j (int_max (v_at d j) (unwrap_or o (v_at d j)))) is ∙ ap (with_v d j) same ∙ with_same d j

  seats_up : (l : ℤ) → least_level I path d j ≡ Some l → v_at d j <ℤ l → seated I path d j ≡ with_v d j l
  seats_up l is below =
      let up : int_max (v_at d j) l ≡ l = omega (arith, ints, clamps, below) in
      ap (λ (o : Option ℤ). with_v d j (int_max (v_at d j) (unwrap_or o (v_at d j)))) is ∙ ap (with_v d j) up

  seats_same : (l : ℤ) → least_level I path d j ≡ Some l → l ≤ℤ v_at d j → seated I path d j ≡ d
  seats_same l is under =
      let same : int_max (v_at d j) l ≡ v_at d j = omega (arith, ints, clamps, under) in
      ap (λ (o : Option ℤ). with_v d j (int_max (v_at d j) (unwrap_or o (v_at d j)))) is ∙ ap (with_v d j) same ∙ with_same d j

  -- the same of the numbers that the code has
  module _ (valid : IsValid I) (fit : DualsFit I d) (customer : j < length I.customers) (l v : ℤ) (is : least_level I path d j ≡ Some l) (value : v ≡ v_at d j) where
    level_kept : to_z w128 (of_z w128 l) ≡ l
    level_kept = kept l (MAX_SCALE * MAX_AMOUNT + MAX_MULTIPLIER * MAX_AMOUNT) (least_size valid fit customer l is) (omega arith)

    tested : (t : Bool) → int_lt (to_z w128 (of_z w128 v)) (to_z w128 (of_z w128 l)) ≡ t → int_lt (v_at d j) l ≡ t
    tested t test = subst (λ x. int_lt (v_at d j) x ≡ t) level_kept (subst (λ x. int_lt x (to_z w128 (of_z w128 l)) ≡ t) (value_bits I path d valid fit j customer v value) test)

    pub seats_set : int_lt (to_z w128 (of_z w128 v)) (to_z w128 (of_z w128 l)) ≡ true → with_v d j (to_z w128 (of_z w128 l)) ≡ seated I path d j
    seats_set test = ap (with_v d j) level_kept ∙ sym (seats_up l is (int_lt-less (v_at d j) l (tested true test)))

    pub seats_kept : int_lt (to_z w128 (of_z w128 v)) (to_z w128 (of_z w128 l)) ≡ false → d ≡ seated I path d j
    seats_kept test = sym (seats_same l is (int_lt-not (v_at d j) l (tested false test)))
