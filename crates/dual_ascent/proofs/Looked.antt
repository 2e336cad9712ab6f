-- What a walk over a customer's lanes shows of its rise, and of what blocks it.
use Rattle.std.proofs.Common.{◌≡◌, ℕ, ◌+◌, ◌*◌, ◌<◌, ◌≤◌, sym, ap, subst, ◌∙◌, inl, inr, arith, true, false, List, length, get_or, Option, Some, None, unwrap_or, ℤ, pos, ◌+ℤ◌, ◌≤ℤ◌, ◌<ℤ◌}
use Rattle.std.specs.Prelude.{◌⊎◌, MatchOption, int_le}
use Rattle.std.specs.Int.{int_min}
use Rattle.std.proofs.lemmas.Int.{ints, clamps}
use Rattle.std.proofs.lemmas.Nat.{mul-le}
use Rattle.std.proofs.lemmas.Bool.{or_cases, false≢true, cases_Bool, cases_lt}
use Rattle.location_terms.specs.Instance.{Instance, site_at, customer_at, lane}
use Rattle.location_terms.specs.Box.{Path, is_allowed, is_opened}
use Rattle.location_terms.specs.Bound.{Duals, v_at, u_at, level_at, slack_of}
use Rattle.lane_order.specs.declared.order.PlacedLane.{PlacedLane}
use Rattle.dual_ascent.specs.Ascent.{is_spent, is_blocked, lesser}
use Rattle.dual_ascent.specs.Steps.{IsReached, IsOffer, IsOutlook, shown}
use Rattle.dual_ascent.specs.declared.looking.Offer.TheVariants.{UpTo}
use Rattle.dual_ascent.specs.declared.looking.Outlook.TheVariants.{Rises, Blocked}
use Rattle.dual_ascent.proofs.Tested.{int_le-less, int_le-not}
use Rattle.dual_ascent.proofs.Measured.{Lets, Stops, rise_is, blocked_by, free_from, blocked_alone}
use Rattle.dual_ascent.specs.Walk.{IsLaneWalk}
use Rattle.dual_ascent.proofs.Walked.{IsPassed, passed_more, served_is_placed}

-- a site that is reached and spent blocks the customer
pub blocked_by_spent : (I : Instance) (path : Path) (d : Duals) (j i : ℕ) → IsReached I path d j i → is_spent I path d i ≡ true → is_blocked I path d j ≡ true
blocked_by_spent I path d j i reached spent =
    elim (or_cases (is_opened path (site_at I i)) (int_le (slack_of I path d i) (pos 0)) spent) [
      | inl opened ↦ blocked_by I path d j i reached.within reached.allowed reached.under (inl opened)
      | inr nothing ↦ blocked_by I path d j i reached.within reached.allowed reached.under (inr (int_le-less (slack_of I path d i) (pos 0) nothing))
    ]

far_enough : (v r : ℤ) (a b c : ℕ) → (v +ℤ r) ≤ℤ pos a → a ≤ b → (v +ℤ r) ≤ℤ pos (b + c)
far_enough v r a b c h k = omega (arith, ints)

pub cases_le : (x y : ℤ) → (x ≤ℤ y) ⊎ (y ≤ℤ x)
cases_le x y =
    elim (cases_Bool (int_le x y)) [
      | inl less ↦ inl (int_le-less x y less)
      | inr more ↦ let above = int_le-not x y more in inr (omega (arith, ints, above))
    ]

module _ (I : Instance) (path : Path) (d : Duals) (j : ℕ) where
  abbrev Allowed : ℕ → Type 0
  Allowed i = is_allowed I path (site_at I i) (customer_at I j) ≡ true

  -- the lane from the site at i neither stops a rise by r nor blocks it
  pub record LetsBy (r : ℤ) (i : ℕ) : Type 0 where
    pub fresh : Allowed i → level_at I d i j ≤ℤ v_at d j → is_spent I path d i ≡ false
    pub lets : Lets I path d j r i

  -- some site stops a rise by r, which is above 0
  pub record IsStopped (r : ℤ) : Type 0 where
    pub positive : pos 0 <ℤ r
    pub site : ℕ
    pub within : site < length I.sites
    pub stops : Stops I path d j r site

  -- what is known of the least rise that some sites let
  abbrev pub IsLeastOver : (ℕ → Type 0) → Option ℤ → Type 0
  IsLeastOver Seen None = (i : ℕ) → Seen i → is_allowed I path (site_at I i) (customer_at I j) ≡ false
  IsLeastOver Seen (Some r) = IsStopped r × ((i : ℕ) → Seen i → LetsBy r i)

  -- a rise that is let is no longer stopped by a lane that lets more
  lets_less : (r s : ℤ) (i : ℕ) → r ≤ℤ s → LetsBy s i → LetsBy r i
  lets_less r s i less by =
      record {
        fresh = by.fresh;
        lets = λ allowed.
            let both = by.lets allowed in
            (λ under. let most = both.0 under in omega (arith, ints, less, most), λ over. let most = both.1 over in omega (arith, ints, less, most));
      }

  barred_lets : (r : ℤ) (i : ℕ) → is_allowed I path (site_at I i) (customer_at I j) ≡ false → LetsBy r i
  barred_lets r i barred = record { fresh = λ allowed. absurd (false≢true (sym barred ∙ allowed)); lets = λ allowed. absurd (false≢true (sym barred ∙ allowed)) }

  -- what the offer of one more site makes of it
  offer_lets : (r : ℤ) (i : ℕ) → IsOffer I path d j i (UpTo r) → LetsBy r i
  offer_lets r i (allowed, up, inl (under, fresh, slack)) = record { fresh = λ _ _. fresh; lets = λ _. (λ _. omega (arith, ints, slack), λ over. absurd (omega (arith, ints, under, over))) }
  offer_lets r i (allowed, up, inr (over, level)) = record { fresh = λ _ under. absurd (omega (arith, ints, under, over)); lets = λ _. (λ under. absurd (omega (arith, ints, under, over)), λ _. omega (arith, ints, level)) }

  offer_stops : (r : ℤ) (i : ℕ) → i < length I.sites → IsOffer I path d j i (UpTo r) → IsStopped r
  offer_stops r i b (allowed, up, inl (under, fresh, slack)) = record { positive = up; site = i; within = b; stops = (allowed, inl (under, omega (arith, ints, slack))) }
  offer_stops r i b (allowed, up, inr (over, level)) = record { positive = up; site = i; within = b; stops = (allowed, inr (over, omega (arith, ints, level))) }

  -- where no site blocks, and all sites with an allowed lane were seen
  pub none_left : (Seen : ℕ → Type 0) → ((i : ℕ) → i < length I.sites → Allowed i → Seen i) → IsLeastOver Seen None → IsOutlook I path d j (Blocked None)
  none_left Seen all barred =
      let no_lane : (i : ℕ) → i < length I.sites → is_allowed I path (site_at I i) (customer_at I j) ≡ false = λ i b.
      elim (cases_Bool (is_allowed I path (site_at I i) (customer_at I j))) [ inl allowed ↦ absurd (false≢true (sym (barred i (all i b allowed)) ∙ allowed)) | inr barred_here ↦ barred_here ] in
      (blocked_alone I path d j no_lane, tt)

  pub rises_by : (Seen : ℕ → Type 0) → ((i : ℕ) → i < length I.sites → Allowed i → Seen i) → (r : ℤ) → IsLeastOver Seen (Some r) → IsOutlook I path d j (Rises r)
  rises_by Seen all r (stopped, lets) =
      let free : is_blocked I path d j ≡ false = free_from I path d j stopped.site stopped.within stopped.stops.0 (λ k b allowed under. (lets k (all k b allowed)).fresh allowed under) in
      (free, rise_is I path d j free r (λ i b allowed. (lets i (all i b allowed)).lets allowed) stopped.site stopped.within stopped.stops)

  module _ (lanes : List PlacedLane) (walk : IsLaneWalk I j lanes) where
    pub none_passed : IsLeastOver (IsPassed lanes 0) None
    none_passed i (m, b, at) = absurd (omega (arith, b))

    -- one more lane that is barred, and one that stops a rise
    pub barred_next : (least : Option ℤ) (k : ℕ) (e : PlacedLane) → IsLeastOver (IsPassed lanes k) least → is_allowed I path (site_at I (get_or lanes k e).site) (customer_at I j) ≡ false → IsLeastOver (IsPassed lanes (k + 1)) least
    barred_next None k e before barred = passed_more (λ i. is_allowed I path (site_at I i) (customer_at I j) ≡ false) lanes k e before barred
    barred_next (Some r) k e (stopped, lets) barred = (stopped, passed_more (LetsBy r) lanes k e lets (barred_lets r (get_or lanes k e).site barred))

    module _ (k : ℕ) (e : PlacedLane) (inside : k < length lanes) (r : ℤ) (offer : IsOffer I path d j (get_or lanes k e).site (UpTo r)) where
      offer_next_by : (least : Option ℤ) (x : ℤ) → Some x ≡ lesser least (Some r) → IsLeastOver (IsPassed lanes k) least → IsLeastOver (IsPassed lanes (k + 1)) (Some x)
      offer_next_by None x is before =
          let same : x ≡ r = cc in
          subst (λ y. IsLeastOver (IsPassed lanes (k + 1)) (Some y)) (sym same)
          (offer_stops r (get_or lanes k e).site (walk.within k e inside) offer, passed_more (LetsBy r) lanes k e (λ i seen. barred_lets r i (before i seen)) (offer_lets r (get_or lanes k e).site offer))
      offer_next_by (Some s) x is (stopped, lets) =
          let same : x ≡ int_min s r = cc in
          elim (cases_le s r) [
            | inl less ↦
                let old : x ≡ s = omega (arith, ints, clamps) in
                subst (λ y. IsLeastOver (IsPassed lanes (k + 1)) (Some y)) (sym old)
                (stopped, passed_more (LetsBy s) lanes k e lets (lets_less s r (get_or lanes k e).site less (offer_lets r (get_or lanes k e).site offer)))
            | inr more ↦
                let new : x ≡ r = omega (arith, ints, clamps) in
                subst (λ y. IsLeastOver (IsPassed lanes (k + 1)) (Some y)) (sym new)
                (offer_stops r (get_or lanes k e).site (walk.within k e inside) offer, passed_more (LetsBy r) lanes k e (λ i seen. lets_less r s i more (lets i seen)) (offer_lets r (get_or lanes k e).site offer))
          ]

      pub offer_next : (least : Option ℤ) (x : ℤ) → Some x ≡ lesser least (Some r) → IsLeastOver (IsPassed lanes k) least → IsLeastOver (IsPassed lanes (k + 1)) (Some x)
      offer_next least x is before = offer_next_by least x is before

    -- no lane from the one on whose cost alone is as far as the rise stops it
    past_lets : (r : ℤ) → pos 0 <ℤ r → (k m : ℕ) (e : PlacedLane) → k ≤ m → m < length lanes → (v_at d j +ℤ r) ≤ℤ pos (d.q * (get_or lanes k e).cost) → LetsBy r (get_or lanes m e).site
    past_lets r up k m e later inside far =
        let i = (get_or lanes m e).site in
        let cost : unwrap_or (lane I (site_at I i).id (customer_at I j).id) 0 ≡ (get_or lanes m e).cost = ap (λ (o : Option ℕ). unwrap_or o 0) (walk.is_lane m e inside) in
        let more : d.q * (get_or lanes k e).cost ≤ d.q * unwrap_or (lane I (site_at I i).id (customer_at I j).id) 0 = mul-le d.q (get_or lanes k e).cost d.q (unwrap_or (lane I (site_at I i).id (customer_at I j).id) 0) (omega arith) (omega (arith, cost, walk.rising k m e later inside)) in
        let high : (v_at d j +ℤ r) ≤ℤ level_at I d i j = far_enough (v_at d j) r (d.q * (get_or lanes k e).cost) (d.q * unwrap_or (lane I (site_at I i).id (customer_at I j).id) 0) (u_at d i * (customer_at I j).demand) far more in
        record { fresh = λ _ under. absurd (omega (arith, ints, up, high, under)); lets = λ _. (λ under. absurd (omega (arith, ints, up, high, under)), λ _. high) }

    pub cut_at : (least : Option ℤ) (k : ℕ) (e : PlacedLane) → k < length lanes → IsLeastOver (IsPassed lanes k) least → MatchOption least ⊥ (λ r. (v_at d j +ℤ r) ≤ℤ pos (d.q * (get_or lanes k e).cost)) → IsOutlook I path d j (shown least)
    cut_at None k e inside before far = absurd far
    cut_at (Some r) k e inside (stopped, lets) far =
        let all : (i : ℕ) → i < length I.sites → Allowed i → LetsBy r i = λ i b allowed.
        let at = served_is_placed I path j lanes walk i b allowed in
        elim (cases_lt at.0 k) [
          | inl below ↦ lets i (at.0, below, at.2)
          | inr past ↦ subst (LetsBy r) (at.2 e) (past_lets r stopped.positive k at.0 e past at.1 far)
        ] in
        rises_by (LetsBy r) all r (stopped, λ i by. by)

    at_last : (least : Option ℤ) → IsLeastOver (IsPassed lanes (length lanes)) least → IsOutlook I path d j (shown least)
    at_last None barred = none_left (IsPassed lanes (length lanes)) (λ i b allowed. served_is_placed I path j lanes walk i b allowed) barred
    at_last (Some r) known = rises_by (IsPassed lanes (length lanes)) (λ i b allowed. served_is_placed I path j lanes walk i b allowed) r known

    pub at_end : (least : Option ℤ) (k : ℕ) → k ≡ length lanes → IsLeastOver (IsPassed lanes k) least → IsOutlook I path d j (shown least)
    at_end least k all known = at_last least (subst (λ n. IsLeastOver (IsPassed lanes n) least) all known)
