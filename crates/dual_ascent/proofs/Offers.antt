-- What a lane does to a rise, from the numbers that are compared for it.
use Rattle.std.proofs.Common.{◌≡◌, ℕ, ◌+◌, ◌*◌, ◌<◌, ◌≤◌, refl, sym, ap, subst, ◌∙◌, inl, inr, arith, Bool, true, false, length, List, ℤ, pos, ◌-ℤ◌, ◌≤ℤ◌, ◌<ℤ◌, slice_index_or}
use mir.Syntax.{w128}
use mir.Val.{to_z, of_z}
use Rattle.std.specs.Int.RustNames.{unsigned_abs, FitsSigned}
use Rattle.std.specs.Prelude.{◌||◌, int_lt, int_le}
use Rattle.std.proofs.lemmas.Int.{ints}
use Rattle.location_terms.specs.Instance.{Instance, IsValid, site_at, customer_at}
use Rattle.location_terms.specs.Box.{Path, is_allowed, is_opened}
use Rattle.location_terms.specs.Bound.{Duals, v_at, level_at, slack_of}
use Rattle.location_terms.specs.Fit.{DualsFit}
use Rattle.location_terms.specs.declared.limits.TheConstants.{MAX_AMOUNT, MAX_SCALE, MAX_VALUE, MAX_MULTIPLIER}
use Rattle.dual_value.specs.declared.bounds.TheConstants.{MAX_SLACK}
use Rattle.dual_value.specs.Slacks.{AreSlacks}
use Rattle.dual_value.proofs.Sizes.{kept, size-minus, difference_kept, difference_fits}
use Rattle.dual_ascent.specs.Ascent.{is_spent}
use Rattle.dual_ascent.specs.Steps.{IsOffer}
use Rattle.dual_ascent.specs.declared.looking.Offer.TheVariants.{UpTo}
use Rattle.dual_ascent.proofs.Tested.{int_lt-less, int_lt-not, int_le-not, neither}
use Rattle.dual_value.proofs.Payments.{value_small}
use Rattle.dual_ascent.proofs.Sized.{level_size, slack_size}

module _ (I : Instance) (path : Path) (d : Duals) (valid : IsValid I) (fit : DualsFit I d) (i : ℕ) (site : i < length I.sites) where
  module _ (j : ℕ) (customer : j < length I.customers) (level value : ℤ) (is_level : level ≡ level_at I d i j) (is_value : value ≡ v_at d j) where
    level_small : unsigned_abs level ≤ MAX_SCALE * MAX_AMOUNT + MAX_MULTIPLIER * MAX_AMOUNT
    level_small = subst (λ x. unsigned_abs x ≤ MAX_SCALE * MAX_AMOUNT + MAX_MULTIPLIER * MAX_AMOUNT) (sym is_level) (level_size I path d valid fit i j site customer)

    passed_small : unsigned_abs value ≤ MAX_VALUE
    passed_small = subst (λ x. unsigned_abs x ≤ MAX_VALUE) (sym is_value) (value_small I path d valid fit j customer)

    pub above_fits : FitsSigned w128 (to_z w128 (of_z w128 level) -ℤ to_z w128 (of_z w128 value))
    above_fits = difference_fits level value (MAX_SCALE * MAX_AMOUNT + MAX_MULTIPLIER * MAX_AMOUNT) MAX_VALUE level_small passed_small (omega arith)

    above : to_z w128 (of_z w128 (to_z w128 (of_z w128 level) -ℤ to_z w128 (of_z w128 value))) ≡ level -ℤ value
    above = difference_kept level value (MAX_SCALE * MAX_AMOUNT + MAX_MULTIPLIER * MAX_AMOUNT) MAX_VALUE level_small passed_small (omega arith)

    -- a level above the dual lets it rise up to there
    pub offers_level : is_allowed I path (site_at I i) (customer_at I j) ≡ true → int_lt (pos 0) (to_z w128 (of_z w128 (to_z w128 (of_z w128 level) -ℤ to_z w128 (of_z w128 value)))) ≡ true
        → IsOffer I path d j i (UpTo (to_z w128 (of_z w128 (to_z w128 (of_z w128 level) -ℤ to_z w128 (of_z w128 value)))))
    offers_level allowed up =
        let more : pos 0 <ℤ (level -ℤ value) = int_lt-less (pos 0) (level -ℤ value) (ap (int_lt (pos 0)) (sym above) ∙ up) in
        subst (λ x. IsOffer I path d j i (UpTo x)) (sym above) (allowed, more, inr (omega (arith, ints, is_level, is_value, more), omega (arith, ints, is_level, is_value)))

    -- else the dual reaches the site
    pub reaches : int_lt (pos 0) (to_z w128 (of_z w128 (to_z w128 (of_z w128 level) -ℤ to_z w128 (of_z w128 value)))) ≡ false → level_at I d i j ≤ℤ v_at d j
    reaches not_above =
        let no_more : (level -ℤ value) ≤ℤ pos 0 = int_lt-not (pos 0) (level -ℤ value) (ap (int_lt (pos 0)) (sym above) ∙ not_above) in
        omega (arith, ints, is_level, is_value, no_more)

  module _ (slacks : List ℤ) (are : AreSlacks I path d slacks) where
    pub slack_is : to_z w128 (of_z w128 (slice_index_or slacks i (pos 0))) ≡ slack_of I path d i
    slack_is = ap (λ x. to_z w128 (of_z w128 x)) (are.each i site) ∙ kept (slack_of I path d i) MAX_SLACK (slack_size I path d valid fit i site) (omega arith)

    -- the site is spent as the code finds it
    pub spent_is : (b : Bool) → b ≡ (is_opened path (site_at I i) || int_le (to_z w128 (of_z w128 (slice_index_or slacks i (pos 0)))) (pos 0)) → b ≡ is_spent I path d i
    spent_is b e = e ∙ ap (λ x. is_opened path (site_at I i) || int_le x (pos 0)) slack_is

    -- a site that is reached and not spent lets the dual rise by its slack
    pub offers_slack : (j : ℕ) → is_allowed I path (site_at I i) (customer_at I j) ≡ true → level_at I d i j ≤ℤ v_at d j → is_spent I path d i ≡ false → IsOffer I path d j i (UpTo (to_z w128 (of_z w128 (slice_index_or slacks i (pos 0)))))
    offers_slack j allowed under fresh =
        let more : pos 0 <ℤ slack_of I path d i = int_le-not (slack_of I path d i) (pos 0) (neither (is_opened path (site_at I i)) (int_le (slack_of I path d i) (pos 0)) fresh).1 in
        subst (λ x. IsOffer I path d j i (UpTo x)) (sym slack_is) (allowed, more, inl (under, fresh, refl))

  -- the code keeps a rise that an offer lets
  pub offer_kept : (j : ℕ) → j < length I.customers → (r : ℤ) → IsOffer I path d j i (UpTo r) → to_z w128 (of_z w128 r) ≡ r
  offer_kept j customer r (allowed, up, inl (under, fresh, slack)) = kept r MAX_SLACK (subst (λ x. unsigned_abs x ≤ MAX_SLACK) slack (slack_size I path d valid fit i site)) (omega arith)
  offer_kept j customer r (allowed, up, inr (over, level)) =
      let is : (level_at I d i j -ℤ v_at d j) ≡ r = omega (arith, ints, level) in
      let size = size-minus (level_at I d i j) (v_at d j) (MAX_SCALE * MAX_AMOUNT + MAX_MULTIPLIER * MAX_AMOUNT) MAX_VALUE (level_size I path d valid fit i j site customer) (value_small I path d valid fit j customer) in
      kept r ((MAX_SCALE * MAX_AMOUNT + MAX_MULTIPLIER * MAX_AMOUNT) + MAX_VALUE) (subst (λ x. unsigned_abs x ≤ (MAX_SCALE * MAX_AMOUNT + MAX_MULTIPLIER * MAX_AMOUNT) + MAX_VALUE) is size) (omega arith)
