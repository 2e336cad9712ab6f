-- The ascent from zeros: its duals, its slacks and its bound are 0 or more.
use Rattle.std.proofs.Common.{◌≡◌, ℕ, ◌*◌, ◌<◌, ◌≤◌, refl, ap, ◌∙◌, arith, Bool, true, false, length, Option, Some, None, ℤ, pos, ◌-ℤ◌, ◌≤ℤ◌}
use Rattle.std.specs.Prelude.{All, if◌then◌else◌}
use Rattle.std.specs.Int.{int_max, int_min}
use Rattle.std.proofs.lemmas.Int.{ints, clamps}
use Rattle.std.proofs.lemmas.List.Elements.{All-replicate}
use Rattle.location_terms.specs.Instance.{Instance, IsValid, site_at, customer_at}
use Rattle.location_terms.specs.Box.{Path, is_allowed, is_opened, is_free}
use Rattle.location_terms.specs.Bound.{Duals, v_at, u_at, level_at, paid_at, cap_price, slack_of, share_of, bound_of}
use Rattle.location_terms.specs.Fit.{AreTame}
use Rattle.location_terms.specs.declared.limits.TheConstants.{MAX_SCALE, MAX_TAME}
use Rattle.location_terms.proofs.Totals.{total_zero, total_le}
use Rattle.dual_value.specs.Zeros.{zeros}
use Rattle.dual_value.proofs.Zeros.{zero_v, zero_u, zeros_fit}
use Rattle.dual_ascent.specs.Ascent.{IsAscended}
use Rattle.dual_ascent.specs.Kept.{Keeps}
use Rattle.dual_ascent.proofs.Results.{ascended_keeps}

pub nothing_paid : (allowed : Bool) (v level : ℤ) → (allowed ≡ true → v ≤ℤ level) → (if allowed then int_max (pos 0) (v -ℤ level) else pos 0) ≡ pos 0
nothing_paid true v level low = let h = low refl in omega (arith, ints, clamps, h)
nothing_paid false v level low = refl

pub no_cap_price : (u : ℕ) (cap : Option ℕ) → u ≡ 0 → cap_price u cap ≡ 0
no_cap_price u None e = refl
no_cap_price u (Some cap) e = ap (λ x. x * cap) e ∙ omega arith

share_at_least : (opened free : Bool) (slack : ℤ) → pos 0 ≤ℤ slack → pos 0 ≤ℤ (if opened then slack else (if free then int_min (pos 0) slack else pos 0))
share_at_least true free slack low = low
share_at_least false true slack low = omega (arith, ints, clamps)
share_at_least false false slack low = omega (arith, ints)

module _ (I : Instance) (path : Path) (q : ℕ) where
  level_above : (i k : ℕ) → pos 0 ≤ℤ level_at I (zeros I q) i k
  level_above i k = omega (arith, ints)

  pub zero_slack : (i : ℕ) → i < length I.sites → pos 0 ≤ℤ slack_of I path (zeros I q) i
  zero_slack i b =
      let unpaid = total_zero (paid_at I path (zeros I q) i) (length I.customers) (λ k c. nothing_paid (is_allowed I path (site_at I i) (customer_at I k)) (v_at (zeros I q) k) (level_at I (zeros I q) i k) (λ _. omega (arith, ints, zero_v I q k c, level_above i k))) in
      omega (arith, ints, unpaid, no_cap_price (u_at (zeros I q) i) (site_at I i).cap (zero_u I q i b))

  pub zero_bound : pos 0 ≤ℤ bound_of I path (zeros I q)
  zero_bound =
      let shares = total_le (λ _. pos 0) (share_of I path (zeros I q)) (length I.sites) (λ i b. share_at_least (is_opened path (site_at I i)) (is_free path (site_at I i)) (slack_of I path (zeros I q) i) (zero_slack i b)) in
      let free : 0 * I.hi ≡ 0 = omega arith in
      omega (arith, ints, shares, free, total_zero (λ _. pos 0) (length I.sites) (λ _ _. refl), total_zero (v_at (zeros I q)) (length I.customers) (zero_v I q))

  module _ (scaled : 1 ≤ q) (small : q ≤ MAX_SCALE) where
    pub zeros_are_tame : AreTame I (zeros I q)
    zeros_are_tame =
        record { fit = zeros_fit I q small; scaled = scaled; count_price = omega arith; demand_prices = All-replicate (λ u. All (λ c. u * c.demand ≤ MAX_TAME) I.customers) (length I.sites) 0 (λ k d b. omega arith) }

    module _ (valid : IsValid I) (e : Duals) (asc : IsAscended I path (zeros I q) e) where
      pub plain_keeps : Keeps I path (zeros I q) e
      plain_keeps = ascended_keeps I path valid (zeros I q) zeros_are_tame e asc

      pub plain_values : (k : ℕ) → k < length I.customers → pos 0 ≤ℤ v_at e k
      plain_values k b = omega (arith, ints, plain_keeps.no_lower k, zero_v I q k b)

      pub plain_slacks : (i : ℕ) → i < length I.sites → pos 0 ≤ℤ slack_of I path e i
      plain_slacks i b = plain_keeps.slacks i b (zero_slack i b)

      pub plain_bound : pos 0 ≤ℤ bound_of I path e
      plain_bound = omega (arith, ints, plain_keeps.bound, zero_bound)
