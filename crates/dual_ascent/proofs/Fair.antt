-- One customer's dual raised alone, by no more than each of its lanes leaves: the slacks that fall stay at 0 or more, no
-- site's share changes, and the bound rises by as much.
use Rattle.std.proofs.Common.{◌≡◌, ◌≢◌, ℕ, ◌<◌, refl, sym, subst, ap, inl, inr, arith, Bool, true, false, length, List, ℤ, pos, ◌+ℤ◌, ◌-ℤ◌, ◌≤ℤ◌}
use Rattle.std.specs.Prelude.{◌⊎◌, if◌then◌else◌}
use Rattle.std.specs.Int.{int_max, int_min}
use Rattle.std.proofs.lemmas.Int.{ints, clamps}
use Rattle.std.proofs.lemmas.Bool.{false≢true, cases_eq}
use Rattle.std.proofs.lemmas.List.{get_or-set_same, get_or-set_other, set-get_or}
use Rattle.location_terms.specs.Instance.{Instance, site_at, customer_at}
use Rattle.location_terms.specs.Box.{Path, is_allowed, is_opened, is_free}
use Rattle.location_terms.specs.Bound.{Duals, v_at, level_at, paid_at, total, slack_of, share_of, bound_of}
use Rattle.location_terms.proofs.Totals.{total_same, total_one, total_minus}
use Rattle.dual_ascent.specs.Ascent.{with_v}

-- a dual that is given anew what it is stays
pub with_same : (d : Duals) (j : ℕ) → with_v d j (v_at d j) ≡ d
with_same d j = ap (λ (xs : List ℤ). let e : Duals = record d { v = xs } in e) (set-get_or d.v j (pos 0))

-- totals of terms that differ at one place
pub total_changed : (f g : ℕ → ℤ) (n k : ℕ) → k < n → ((i : ℕ) → i < n → i ≢ k → f i ≡ g i) → total f n ≡ total g n +ℤ (f k -ℤ g k)
total_changed f g n k b same =
    let none : (i : ℕ) → i < n → i ≢ k → (f i -ℤ g i) ≡ pos 0 = λ i c other. let e = same i c other in omega (arith, ints) in
    omega (arith, ints, total_minus f g n, total_one (λ i. f i -ℤ g i) n k b none)

-- what a customer pays at a site after its dual rose by r: as before, or r more, which the site's slack s holds
paid_more : (allowed opened : Bool) (v r level s : ℤ) → pos 0 ≤ℤ r
    → (allowed ≡ true → ((v +ℤ r) ≤ℤ level) ⊎ ((level ≤ℤ v) × (opened ≡ false) × (r ≤ℤ s)))
    → ((if allowed then int_max (pos 0) ((v +ℤ r) -ℤ level) else pos 0) ≡ (if allowed then int_max (pos 0) (v -ℤ level) else pos 0))
    ⊎ (((if allowed then int_max (pos 0) ((v +ℤ r) -ℤ level) else pos 0) ≡ (if allowed then int_max (pos 0) (v -ℤ level) else pos 0) +ℤ r) × (opened ≡ false) × (r ≤ℤ s))
paid_more false opened v r level s low h = inl refl
paid_more true opened v r level s low h =
    elim (h refl) [
      | inl above ↦ inl (omega (arith, ints, clamps))
      | inr within ↦ let under = within.0 in inr (omega (arith, ints, clamps), within.1, within.2)
    ]

-- a share after the site's slack fell by r, where the site is not opened and its slack holds r
share_kept : (opened free : Bool) (s s' r : ℤ) → pos 0 ≤ℤ r
    → (s' ≡ s) ⊎ ((s' ≡ s -ℤ r) × (opened ≡ false) × (r ≤ℤ s))
    → (if opened then s' else (if free then int_min (pos 0) s' else pos 0)) ≡ (if opened then s else (if free then int_min (pos 0) s else pos 0))
share_kept opened free s s' r low (inl e) = ap (λ (x : ℤ). if opened then x else (if free then int_min (pos 0) x else pos 0)) e
share_kept true free s s' r low (inr h) = absurd (false≢true (sym h.1))
share_kept false true s s' r low (inr h) = let e = h.0 in let holds = h.2 in omega (arith, ints, clamps)
share_kept false false s s' r low (inr h) = refl

module _ (I : Instance) (path : Path) (d : Duals) (j : ℕ) (r : ℤ) where
  -- the lane from the site at i leaves room for a rise by r: it is above it, or its site is not opened and its slack holds r
  abbrev pub Leaves : ℕ → Type 0
  Leaves i = is_allowed I path (site_at I i) (customer_at I j) ≡ true → ((v_at d j +ℤ r) ≤ℤ level_at I d i j) ⊎ ((level_at I d i j ≤ℤ v_at d j) × (is_opened path (site_at I i) ≡ false) × (r ≤ℤ slack_of I path d i))

  abbrev pub risen : Duals
  risen = with_v d j (v_at d j +ℤ r)

  pub v_other : (k : ℕ) → k ≢ j → v_at risen k ≡ v_at d k
  v_other k other = get_or-set_other d.v j k (v_at d j +ℤ r) (pos 0) other

  module _ (low : pos 0 ≤ℤ r) (here : j < length d.v) where
    pub v_here : v_at risen j ≡ v_at d j +ℤ r
    v_here = get_or-set_same d.v j (v_at d j +ℤ r) (pos 0) here

    -- no customer's dual is lower
    pub v_above : (k : ℕ) → v_at d k ≤ℤ v_at risen k
    v_above k =
        elim (cases_eq k j) [
          | inl e ↦ omega (arith, ints, v_here, ap (v_at d) e, ap (v_at risen) e)
          | inr other ↦ omega (arith, ints, v_other k other)
        ]

    module _ (known : j < length I.customers) (leaves : (i : ℕ) → i < length I.sites → Leaves i) where
      abbrev IsPaid : ℤ → ℕ → Type 0
      IsPaid v i = ((if is_allowed I path (site_at I i) (customer_at I j) then int_max (pos 0) (v -ℤ level_at I d i j) else pos 0) ≡ paid_at I path d i j)
          ⊎ (((if is_allowed I path (site_at I i) (customer_at I j) then int_max (pos 0) (v -ℤ level_at I d i j) else pos 0) ≡ paid_at I path d i j +ℤ r) × (is_opened path (site_at I i) ≡ false) × (r ≤ℤ slack_of I path d i))

      paid_here : (i : ℕ) → i < length I.sites → IsPaid (v_at risen j) i
      paid_here i b =
          subst (λ v. IsPaid v i) (sym v_here)
          (paid_more (is_allowed I path (site_at I i) (customer_at I j)) (is_opened path (site_at I i)) (v_at d j) r (level_at I d i j) (slack_of I path d i) low (leaves i b))

      paid_other : (i k : ℕ) → k ≢ j → paid_at I path risen i k ≡ paid_at I path d i k
      paid_other i k other = ap (λ v. if is_allowed I path (site_at I i) (customer_at I k) then int_max (pos 0) (v -ℤ level_at I d i k) else pos 0) (v_other k other)

      -- a site's slack stays, or falls by r, which it holds
      pub slack_step : (i : ℕ) → i < length I.sites → (slack_of I path risen i ≡ slack_of I path d i) ⊎ ((slack_of I path risen i ≡ slack_of I path d i -ℤ r) × (is_opened path (site_at I i) ≡ false) × (r ≤ℤ slack_of I path d i))
      slack_step i b =
          let changed = total_changed (paid_at I path risen i) (paid_at I path d i) (length I.customers) j known (λ k _ other. paid_other i k other) in
          elim (paid_here i b) [
            | inl same ↦ inl (omega (arith, ints, changed, same))
            | inr more ↦ let rose = more.0 in inr (omega (arith, ints, changed, rose), more.1, more.2)
          ]

      -- a slack that was at least 0 is still
      pub slack_stays : (i : ℕ) → i < length I.sites → pos 0 ≤ℤ slack_of I path d i → pos 0 ≤ℤ slack_of I path risen i
      slack_stays i b at_least =
          elim (slack_step i b) [
            | inl same ↦ omega (arith, ints, at_least, same)
            | inr fell ↦ let less = fell.0 in let holds = fell.2 in omega (arith, ints, less, holds)
          ]

      share_same : (i : ℕ) → i < length I.sites → share_of I path risen i ≡ share_of I path d i
      share_same i b = share_kept (is_opened path (site_at I i)) (is_free path (site_at I i)) (slack_of I path d i) (slack_of I path risen i) r low (slack_step i b)

      pub values_rise : total (v_at risen) (length I.customers) ≡ total (v_at d) (length I.customers) +ℤ r
      values_rise = omega (arith, ints, total_changed (v_at risen) (v_at d) (length I.customers) j known (λ k _ other. v_other k other), v_here)

      -- the bound rises by r
      pub bound_rises : bound_of I path risen ≡ bound_of I path d +ℤ r
      bound_rises = omega (arith, ints, values_rise, total_same (share_of I path risen) (share_of I path d) (length I.sites) share_same)
