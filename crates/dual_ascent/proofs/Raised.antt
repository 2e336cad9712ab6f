-- What one customer's step of the ascent keeps: seated or raised, the form, the scale and the prices stay, no dual is lower, no slack
-- falls below 0, and the bound rises by what the duals rise.
use Rattle.std.proofs.Common.{◌≡◌, ℕ, ◌<◌, refl, sym, ap, subst, ◌∙◌, inl, inr, arith, Bool, true, false, length, Option, Some, None, unwrap_or, ℤ, pos, ◌+ℤ◌, ◌-ℤ◌, ◌≤ℤ◌, ◌<ℤ◌}
use Rattle.std.specs.Prelude.{MatchOption, int_lt, if◌then◌else◌}
use Rattle.std.specs.Int.{int_max}
use Rattle.std.proofs.lemmas.Int.{ints, clamps}
use Rattle.std.proofs.lemmas.Bool.{cases_Bool}
use Rattle.std.proofs.lemmas.List.{length-set}
use Rattle.location_terms.specs.Instance.{Instance, site_at, customer_at}
use Rattle.location_terms.specs.Box.{Path, is_allowed}
use Rattle.location_terms.specs.Bound.{Duals, v_at, level_at, total, slack_of, bound_of}
use Rattle.dual_ascent.specs.Levels.{site_places, servers, levels_of, least_level, reached}
use Rattle.dual_ascent.specs.Ascent.{is_blocked, with_v, seated, raised}
use Rattle.dual_ascent.proofs.Tested.{int_lt-less, int_lt-not}
use Rattle.dual_ascent.proofs.Picked.{all_picked, all_valued, all_places}
use Rattle.dual_ascent.proofs.Fair.{with_same, Leaves, risen, v_above, slack_stays, values_rise, bound_rises}
use Rattle.dual_ascent.proofs.Rise.{least_within, rise, rise_positive, rise_leaves}

-- what the ascent keeps from one set of duals to the next
pub record IsRisen (I : Instance) (path : Path) (d e : Duals) : Type 0 where
  pub form : e.form ≡ d.form
  pub scale : e.q ≡ d.q
  pub count_price : e.nu ≡ d.nu
  pub prices : e.u ≡ d.u
  pub customers : length e.v ≡ length d.v
  pub above : (k : ℕ) → v_at d k ≤ℤ v_at e k
  pub slacks : (i : ℕ) → i < length I.sites → pos 0 ≤ℤ slack_of I path d i → pos 0 ≤ℤ slack_of I path e i
  pub bound : bound_of I path e -ℤ bound_of I path d ≡ total (v_at e) (length I.customers) -ℤ total (v_at d) (length I.customers)

pub same_is_risen : (I : Instance) (path : Path) (d : Duals) → IsRisen I path d d
same_is_risen I path d =
    record {
      form = refl;
      scale = refl;
      count_price = refl;
      prices = refl;
      customers = refl;
      above = λ k. omega (arith, ints);
      slacks = λ i b h. h;
      bound = omega (arith, ints);
    }

pub risen_again : (I : Instance) (path : Path) (d e f : Duals) → IsRisen I path d e → IsRisen I path e f → IsRisen I path d f
risen_again I path d e f one two =
    record {
      form = two.form ∙ one.form;
      scale = two.scale ∙ one.scale;
      count_price = two.count_price ∙ one.count_price;
      prices = two.prices ∙ one.prices;
      customers = two.customers ∙ one.customers;
      above = λ k. omega (arith, ints, one.above k, two.above k);
      slacks = λ i b h. two.slacks i b (one.slacks i b h);
      bound = omega (arith, ints, one.bound, two.bound);
    }

-- a customer that is blocked keeps its dual, any other has risen
module _ (I : Instance) (path : Path) (d : Duals) (j : ℕ) where
  pub raised_blocked : is_blocked I path d j ≡ true → raised I path d j ≡ d
  raised_blocked e = ap (λ (b : Bool). if b then d else risen I path d j (rise I path d j)) e

  pub raised_free : is_blocked I path d j ≡ false → raised I path d j ≡ risen I path d j (rise I path d j)
  raised_free e = ap (λ (b : Bool). if b then d else risen I path d j (rise I path d j)) e

module _ (I : Instance) (path : Path) (d : Duals) (j : ℕ) (known : j < length I.customers) (here : j < length d.v) where
  step_is_risen : (r : ℤ) → pos 0 ≤ℤ r → ((i : ℕ) → i < length I.sites → Leaves I path d j r i) → IsRisen I path d (risen I path d j r)
  step_is_risen r low leaves =
      record {
        form = refl;
        scale = refl;
        count_price = refl;
        prices = refl;
        customers = length-set d.v j (v_at d j +ℤ r);
        above = v_above I path d j r low here;
        slacks = slack_stays I path d j r low here known leaves;
        bound = omega (arith, ints, values_rise I path d j r low here known leaves, bound_rises I path d j r low here known leaves);
      }

  -- a dual below the least level leaves room up to it
  seat_leaves : (l : ℤ) → least_level I path d j ≡ Some l → (i : ℕ) → i < length I.sites → Leaves I path d j (l -ℤ v_at d j) i
  seat_leaves l e i b allowed =
      let A : ℕ → Bool = λ k. is_allowed I path (site_at I k) (customer_at I j) in
      let Q : Option ℤ → ℕ → Type 0 = λ o k. MatchOption o ⊥ (λ m. m ≤ℤ level_at I d k j) in
      let within = all_places (λ k. A k ≡ true → Q (least_level I path d j) k) (length I.sites) i
      (all_picked (Q (least_level I path d j)) A (site_places I) (all_valued (λ x. MatchOption (least_level I path d j) ⊥ (λ m. m ≤ℤ x)) (λ k. level_at I d k j) (servers I path j) (least_within (levels_of I path d j)))) b allowed in
      let at_most : l ≤ℤ level_at I d i j = subst (λ o. Q o i) e within in
      inl (omega (arith, ints, at_most))

  seated_by : (o : Option ℤ) → least_level I path d j ≡ o → IsRisen I path d (with_v d j (int_max (v_at d j) (unwrap_or o (v_at d j))))
  seated_by None e =
      let same : int_max (v_at d j) (v_at d j) ≡ v_at d j = omega (arith, ints, clamps) in
      subst (λ f. IsRisen I path d f) (sym (ap (with_v d j) same ∙ with_same d j)) (same_is_risen I path d)
  seated_by (Some l) e =
      elim (cases_Bool (int_lt (v_at d j) l)) [
        | inl below ↦
            let less : v_at d j <ℤ l = int_lt-less (v_at d j) l below in
            let up : (v_at d j +ℤ (l -ℤ v_at d j)) ≡ int_max (v_at d j) l = omega (arith, ints, clamps, less) in
            subst (λ f. IsRisen I path d f) (ap (with_v d j) up) (step_is_risen (l -ℤ v_at d j) (omega (arith, ints, less)) (seat_leaves l e))
        | inr reached ↦
            let least_or_more : l ≤ℤ v_at d j = int_lt-not (v_at d j) l reached in
            let same : int_max (v_at d j) l ≡ v_at d j = omega (arith, ints, clamps, least_or_more) in
            subst (λ f. IsRisen I path d f) (sym (ap (with_v d j) same ∙ with_same d j)) (same_is_risen I path d)
      ]

  pub seated_is_risen : IsRisen I path d (seated I path d j)
  seated_is_risen = seated_by (least_level I path d j) refl

  free_is_risen : is_blocked I path d j ≡ false → IsRisen I path d (risen I path d j (rise I path d j))
  free_is_risen free =
      let up = rise_positive I path d j free in
      step_is_risen (rise I path d j) (omega (arith, ints, up)) (rise_leaves I path d j free)

  pub raised_is_risen : IsRisen I path d (raised I path d j)
  raised_is_risen =
      elim (cases_Bool (is_blocked I path d j)) [
        | inl blocked ↦ subst (λ f. IsRisen I path d f) (sym (raised_blocked I path d j blocked)) (same_is_risen I path d)
        | inr free ↦ subst (λ f. IsRisen I path d f) (sym (raised_free I path d j free)) (free_is_risen free)
      ]

  -- a customer that is not blocked rises: the sum of the duals is greater
  pub raised_more : is_blocked I path d j ≡ false → total (v_at d) (length I.customers) <ℤ total (v_at (raised I path d j)) (length I.customers)
  raised_more free =
      let up = rise_positive I path d j free in
      let more = values_rise I path d j (rise I path d j) (omega (arith, ints, up)) here known (rise_leaves I path d j free) in
      subst (λ f. total (v_at d) (length I.customers) <ℤ total (v_at f) (length I.customers)) (sym (raised_free I path d j free)) (omega (arith, ints, up, more))
