-- What it means that a customer is blocked: no rise of its dual alone makes the bound greater, and a customer that is not
-- blocked has one that does.
use Rattle.std.proofs.Common.{◌≡◌, ◌≢◌, ℕ, ◌<◌, sym, subst, ◌∙◌, inl, inr, arith, Bool, true, false, length, ℤ, pos, ◌+ℤ◌, ◌-ℤ◌, ◌≤ℤ◌, ◌<ℤ◌}
use Rattle.std.specs.Prelude.{◌⊎◌, ◌&&◌, not, ◌==◌, All, Any, int_le, if◌then◌else◌}
use Rattle.std.specs.List.{list_any}
use Rattle.std.specs.Int.{int_max, int_min}
use Rattle.std.proofs.lemmas.Int.{ints, clamps}
use Rattle.std.proofs.lemmas.Bool.{or_cases, eqb-true, false≢true, false_from_ne_true}
use Rattle.std.proofs.lemmas.List.Folds.{Any-from_list_any}
use Rattle.location_terms.specs.Instance.{Instance, site_at, customer_at}
use Rattle.location_terms.specs.Box.{Path, is_allowed, is_opened, is_closed, is_called_for, is_free}
use Rattle.location_terms.specs.Bound.{Duals, v_at, level_at, paid_at, total, slack_of, share_of, bound_of}
use Rattle.location_terms.proofs.Totals.{total_le, total_part, total_minus}
use Rattle.dual_value.proofs.Unpaid.{closed_bars}
use Rattle.dual_ascent.specs.Levels.{site_places, servers, reached}
use Rattle.dual_ascent.specs.Ascent.{is_spent, is_blocked}
use Rattle.dual_ascent.proofs.Fair.{risen, v_here, v_other, v_above, total_changed, bound_rises}
use Rattle.dual_ascent.proofs.Tested.{int_le-less}
use Rattle.dual_ascent.proofs.Rise.{rise, rise_positive, rise_leaves}
use Rattle.dual_ascent.proofs.Measured.{picked_all, slack_falls}
use Rattle.dual_ascent.proofs.Ceiling.{places_below}

-- terms that are no greater, one of them by at least r, have a total that is lower by at least r
total_lower : (f g : ℕ → ℤ) (n k : ℕ) (r : ℤ) → k < n → ((i : ℕ) → i < n → f i ≤ℤ g i) → (f k +ℤ r) ≤ℤ g k → (total f n +ℤ r) ≤ℤ total g n
total_lower f g n k r b each one =
    let part = total_part (λ i. g i -ℤ f i) n k b (λ i c. let no_greater = each i c in omega (arith, ints, no_greater)) in
    omega (arith, ints, part, total_minus g f n, one)

-- what is paid is no less where the dual is no lower
paid_no_less : (allowed : Bool) (v w level : ℤ) → v ≤ℤ w → (if allowed then int_max (pos 0) (v -ℤ level) else pos 0) ≤ℤ (if allowed then int_max (pos 0) (w -ℤ level) else pos 0)
paid_no_less true v w level up = omega (arith, ints, clamps)
paid_no_less false v w level up = omega (arith, ints)

share_no_greater : (opened free : Bool) (s t : ℤ) → t ≤ℤ s → (if opened then t else (if free then int_min (pos 0) t else pos 0)) ≤ℤ (if opened then s else (if free then int_min (pos 0) s else pos 0))
share_no_greater true free s t down = down
share_no_greater false true s t down = omega (arith, ints, clamps)
share_no_greater false false s t down = omega (arith, ints)

-- at a spent site that is not closed the share falls as the slack does
share_falls : (called closed : Bool) (s t r : ℤ) → closed ≡ false → pos 0 ≤ℤ r → t ≡ s -ℤ r → ((called && not closed) ≡ true) ⊎ (s ≤ℤ pos 0)
    → ((if called && not closed then t else (if not called && not closed then int_min (pos 0) t else pos 0)) +ℤ r) ≤ℤ (if called && not closed then s else (if not called && not closed then int_min (pos 0) s else pos 0))
share_falls called true s t r e low fell spent = absurd (false≢true (sym e))
share_falls true false s t r e low fell spent = omega (arith, ints)
share_falls false false s t r e low fell (inl opened) = absurd (false≢true opened)
share_falls false false s t r e low fell (inr nothing) = omega (arith, ints, clamps)

-- a blocked customer with an allowed lane reaches a site that is spent
pub blocked_reaches : (I : Instance) (path : Path) (d : Duals) (j : ℕ) → length (servers I path j) ≢ 0 → is_blocked I path d j ≡ true
    → (i : ℕ) × (i < length I.sites) × (is_allowed I path (site_at I i) (customer_at I j) ≡ true) × (level_at I d i j ≤ℤ v_at d j) × (is_spent I path d i ≡ true)
blocked_reaches I path d j some blocked =
    elim (or_cases (length (servers I path j) == 0) (list_any (is_spent I path d) (reached I path d j)) blocked) [
      | inl none ↦ absurd (some (eqb-true (length (servers I path j)) 0 none))
      | inr spent ↦
          let A : ℕ → Bool = λ k. is_allowed I path (site_at I k) (customer_at I j) in
          let At : ℕ → Type 0 = λ k. (k < length I.sites) × (A k ≡ true) × (level_at I d k j ≤ℤ v_at d j) in
          let served : All (λ k. (k < length I.sites) × (A k ≡ true)) (servers I path j) = picked_all (λ k. k < length I.sites) (λ k. (k < length I.sites) × (A k ≡ true)) A (site_places I) (λ k c passes. (c, passes)) (places_below (length I.sites)) in
          let all_at : All At (reached I path d j) = picked_all (λ k. (k < length I.sites) × (A k ≡ true)) At (λ k. int_le (level_at I d k j) (v_at d j)) (servers I path j) (λ k h e. (h.0, h.1, int_le-less (level_at I d k j) (v_at d j) e)) served in
          let found : Any (λ k. is_spent I path d k ≡ true) (reached I path d j) = Any-from_list_any (is_spent I path d) (reached I path d j) spent in
          let at : At found.1 = subst At found.3 (all_at found.0 found.1 found.2) in
          (found.1, at.0, at.1, at.2, found.4)
    ]

module _ (I : Instance) (path : Path) (d : Duals) (j : ℕ) (here : j < length d.v) (known : j < length I.customers) where
  -- a customer that is not blocked can rise and make the bound greater
  pub free_gains : is_blocked I path d j ≡ false → (r : ℤ) × (pos 0 <ℤ r) × (bound_of I path d <ℤ bound_of I path (risen I path d j r))
  free_gains free =
      let up = rise_positive I path d j free in
      let more = bound_rises I path d j (rise I path d j) (omega (arith, ints, up)) here known (rise_leaves I path d j free) in
      (rise I path d j, up, omega (arith, ints, up, more))

  module _ (r : ℤ) (low : pos 0 ≤ℤ r) where
    paid_up : (i k : ℕ) → paid_at I path d i k ≤ℤ paid_at I path (risen I path d j r) i k
    paid_up i k = paid_no_less (is_allowed I path (site_at I i) (customer_at I k)) (v_at d k) (v_at (risen I path d j r) k) (level_at I d i k) (v_above I path d j r low here k)

    slack_down : (i : ℕ) → slack_of I path (risen I path d j r) i ≤ℤ slack_of I path d i
    slack_down i = omega (arith, ints, total_le (paid_at I path d i) (paid_at I path (risen I path d j r) i) (length I.customers) (λ k _. paid_up i k))

    share_down : (i : ℕ) → share_of I path (risen I path d j r) i ≤ℤ share_of I path d i
    share_down i = share_no_greater (is_opened path (site_at I i)) (is_free path (site_at I i)) (slack_of I path d i) (slack_of I path (risen I path d j r) i) (slack_down i)

    spent_stops : (i : ℕ) → i < length I.sites → is_allowed I path (site_at I i) (customer_at I j) ≡ true → level_at I d i j ≤ℤ v_at d j → is_spent I path d i ≡ true → bound_of I path (risen I path d j r) ≤ℤ bound_of I path d
    spent_stops i b allowed under spent =
        let fell = slack_falls I path d j r low here known i allowed under in
        let not_closed : is_closed path (site_at I i) ≡ false = false_from_ne_true (is_closed path (site_at I i)) (λ t. false≢true (sym (closed_bars I path (site_at I i) (customer_at I j) t) ∙ allowed)) in
        let how : (is_opened path (site_at I i) ≡ true) ⊎ (slack_of I path d i ≤ℤ pos 0) =
        elim (or_cases (is_opened path (site_at I i)) (int_le (slack_of I path d i) (pos 0)) spent) [
          | inl opened ↦ inl opened
          | inr nothing ↦ inr (int_le-less (slack_of I path d i) (pos 0) nothing)
        ] in
        let one = share_falls (is_called_for path (site_at I i)) (is_closed path (site_at I i)) (slack_of I path d i) (slack_of I path (risen I path d j r) i) r not_closed low fell how in
        let shares = total_lower (share_of I path (risen I path d j r)) (share_of I path d) (length I.sites) i r b (λ k _. share_down k) one in
        let values = total_changed (v_at (risen I path d j r)) (v_at d) (length I.customers) j known (λ k _ other. v_other I path d j r k other) in
        omega (arith, ints, shares, values, v_here I path d j r low here)

    -- no rise of a blocked customer's dual gains, where some lane to it is allowed
    pub blocked_gains_nothing : length (servers I path j) ≢ 0 → is_blocked I path d j ≡ true → bound_of I path (risen I path d j r) ≤ℤ bound_of I path d
    blocked_gains_nothing some blocked =
        let spent = blocked_reaches I path d j some blocked in
        spent_stops spent.0 spent.1 spent.2 spent.3 spent.4
