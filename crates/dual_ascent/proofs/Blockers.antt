-- The sites that block customers, while duals rise; and what one turn does.
use Rattle.std.proofs.Common.{◌≡◌, ℕ, ◌+◌, ◌*◌, ◌<◌, ◌≤◌, sym, ap, subst, ◌∙◌, arith, false, List, length, get_or, Option, Some, None, unwrap_or, ℤ, pos, ◌+ℤ◌, ◌≤ℤ◌}
use mir.Syntax.{w128}
use mir.Val.{to_z, of_z}
use Rattle.std.specs.Int.RustNames.{unsigned_abs, FitsSigned}
use Rattle.std.proofs.lemmas.Int.{ints}
use Rattle.location_terms.specs.Instance.{Instance, IsValid, site_at, customer_at, lane}
use Rattle.location_terms.specs.Box.{Path}
use Rattle.location_terms.specs.Bound.{Duals, v_at, level_at}
use Rattle.location_terms.specs.Fit.{AreTame}
use Rattle.location_terms.specs.declared.limits.TheConstants.{MAX_VALUE}
use Rattle.dual_value.proofs.Sizes.{abs_below, abs_above, abs_from, kept, fits_size}
use Rattle.dual_ascent.specs.Ascent.{is_blocked, with_v, raised}
use Rattle.dual_ascent.specs.Steps.{IsReached, IsBlocker, AreBlockers}
use Rattle.dual_ascent.proofs.Fair.{v_here}
use Rattle.dual_ascent.proofs.Rise.{rise, rise_positive}
use Rattle.dual_ascent.proofs.Raised.{IsRisen, raised_free, raised_is_risen}
use Rattle.dual_value.proofs.Payments.{value_small}
use Rattle.dual_ascent.proofs.Turns.{raised_tame}

module _ (I : Instance) (path : Path) where
  -- a site that is reached stays so while duals rise
  reached_stays : (d e : Duals) (j i : ℕ) → IsRisen I path d e → IsReached I path d j i → IsReached I path e j i
  reached_stays d e j i up reached =
      let by_prices : ℕ → List ℕ → ℤ = λ q us. pos (q * unwrap_or (lane I (site_at I i).id (customer_at I j).id) 0 + get_or us i 0 * (customer_at I j).demand) in
      let same : level_at I e i j ≡ level_at I d i j = ap (λ q. by_prices q e.u) up.scale ∙ ap (by_prices d.q) up.prices in
      let under = reached.under in
      record { within = reached.within; allowed = reached.allowed; under = omega (arith, ints, same, under, up.above j) }

  blocker_stays : (d e : Duals) (j : ℕ) (o : Option ℕ) → IsRisen I path d e → IsBlocker I path d j o → IsBlocker I path e j o
  blocker_stays d e j None up is = tt
  blocker_stays d e j (Some i) up is = reached_stays d e j i up is

  pub blockers_stay : (d e : Duals) (blockers : List (Option ℕ)) → IsRisen I path d e → AreBlockers I path d blockers → AreBlockers I path e blockers
  blockers_stay d e blockers up are = record { count = are.count; each = λ j b. blocker_stays d e j (get_or blockers j None) up (are.each j b) }

  module _ (valid : IsValid I) (d : Duals) (tame : AreTame I d) (j : ℕ) (known : j < length I.customers) where
    here : j < length d.v
    here = omega (arith, known, tame.fit.of_instance.customers)

    pub turn_rises : IsRisen I path d (raised I path d j)
    turn_rises = raised_is_risen I path d j known here

    -- the dual after its rise, as the code adds it
    module _ (free : is_blocked I path d j ≡ false) (by value : ℤ) (is : rise I path d j ≡ by) (is_value : value ≡ v_at d j) where
      top_size : unsigned_abs (v_at d j +ℤ rise I path d j) ≤ MAX_VALUE
      top_size =
          let low : pos 0 ≤ℤ rise I path d j = (let up = rise_positive I path d j free in omega (arith, ints, up)) in
          let at : v_at (raised I path d j) j ≡ v_at d j +ℤ rise I path d j = ap (λ (f : Duals). v_at f j) (raised_free I path d j free) ∙ v_here I path d j (rise I path d j) low here in
          subst (λ x. unsigned_abs x ≤ MAX_VALUE) at (value_small I path (raised I path d j) valid (raised_tame I path valid d tame j known).fit j known)

      sum_is : (value +ℤ by) ≡ v_at d j +ℤ rise I path d j
      sum_is = ap (λ x. x +ℤ by) is_value ∙ ap (λ x. v_at d j +ℤ x) (sym is)

      by_kept : to_z w128 (of_z w128 by) ≡ by
      by_kept =
          let up = rise_positive I path d j free in
          let top = abs_below (v_at d j +ℤ rise I path d j) MAX_VALUE top_size in
          let bottom = abs_above (v_at d j) MAX_VALUE (value_small I path d valid tame.fit j known) in
          kept by (MAX_VALUE + MAX_VALUE) (subst (λ x. unsigned_abs x ≤ MAX_VALUE + MAX_VALUE) is (abs_from (rise I path d j) (MAX_VALUE + MAX_VALUE) (omega (arith, ints, top, bottom)) (omega (arith, ints, up)))) (omega arith)

      abbrev Sum : ℤ
      Sum = to_z w128 (of_z w128 value) +ℤ to_z w128 (of_z w128 by)

      as_sum : Sum ≡ v_at d j +ℤ rise I path d j
      as_sum =
          let value_kept : to_z w128 (of_z w128 value) ≡ value = kept value MAX_VALUE (subst (λ x. unsigned_abs x ≤ MAX_VALUE) (sym is_value) (value_small I path d valid tame.fit j known)) (omega arith) in
          ap (λ x. x +ℤ to_z w128 (of_z w128 by)) value_kept ∙ ap (λ x. value +ℤ x) by_kept ∙ sum_is

      pub rise_fits : FitsSigned w128 Sum
      rise_fits = subst (λ x. FitsSigned w128 x) (sym as_sum) (fits_size (v_at d j +ℤ rise I path d j) MAX_VALUE top_size (omega arith))

      pub set_is_raised : with_v d j (to_z w128 (of_z w128 Sum)) ≡ raised I path d j
      set_is_raised =
          let sum_kept : to_z w128 (of_z w128 Sum) ≡ v_at d j +ℤ rise I path d j = ap (λ x. to_z w128 (of_z w128 x)) as_sum ∙ kept (v_at d j +ℤ rise I path d j) MAX_VALUE top_size (omega arith) in
          ap (with_v d j) sum_kept ∙ sym (raised_free I path d j free)
