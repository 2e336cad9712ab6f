-- The ascent from zeros at scale 1: each dual is at most twice the greatest cost, each slack at most that cost, and the bound is below 2 ^ 64.
use Rattle.std.proofs.Common.{◌≡◌, ℕ, ◌*◌, ◌^◌, ◌<◌, ◌≤◌, ap, refl, arith, Bool, true, false, length, unwrap_or, ℤ, pos, ◌+ℤ◌, ◌≤ℤ◌, ◌<ℤ◌}
use Rattle.std.specs.Prelude.{if◌then◌else◌}
use Rattle.std.specs.Int.{int_min}
use Rattle.std.proofs.lemmas.Int.{ints, clamps}
use Rattle.location_terms.specs.Instance.{Instance, IsValid, site_at, customer_at, lane}
use Rattle.location_terms.specs.Box.{Path, is_allowed, is_opened, is_free}
use Rattle.location_terms.specs.Bound.{Duals, v_at, u_at, level_at, paid_at, total, slack_of, share_of, count_price, bound_of}
use Rattle.location_terms.specs.declared.limits.TheConstants.{MAX_AMOUNT, MAX_SITES, MAX_CUSTOMERS}
use Rattle.location_terms.proofs.Totals.{total_zero, total_le, total_price}
use Rattle.dual_ascent.specs.Levels.{customer_places}
use Rattle.dual_value.specs.Zeros.{zeros}
use Rattle.dual_ascent.specs.Ascent.{IsAscended}
use Rattle.dual_ascent.specs.Kept.{Keeps}
use Rattle.dual_ascent.proofs.Ceiling.{HasRoom, IsUnder, paid_at_least}
use Rattle.dual_ascent.proofs.Ends.{ascended_under}
use Rattle.dual_ascent.proofs.Tame.{cost_within}
use Rattle.dual_ascent.proofs.Results.{all_known}
use Rattle.dual_value.proofs.Zeros.{zero_v, zero_u}
use Rattle.dual_ascent.proofs.Plain.{zeros_are_tame, plain_keeps}

-- what a site adds to a bound is no more than a limit of its slack
share_at_most : (opened free : Bool) (slack : ℤ) (n : ℕ) → slack ≤ℤ pos n → (if opened then slack else (if free then int_min (pos 0) slack else pos 0)) ≤ℤ pos n
share_at_most true free slack n low = low
share_at_most false true slack n low = omega (arith, ints, clamps)
share_at_most false false slack n low = omega (arith, ints)

bound_at_most : (values shares : ℤ) (m n : ℕ) → values ≤ℤ pos (2 * MAX_AMOUNT * n) → shares ≤ℤ pos (MAX_AMOUNT * m) → m ≤ MAX_SITES → n ≤ MAX_CUSTOMERS → (values +ℤ shares) <ℤ pos (2 ^ 64)
bound_at_most values shares m n h k few_sites few_customers = omega (arith, ints)

module _ (I : Instance) (path : Path) where
  -- a slack is at most the site's scaled cost with the price on the number of sites
  slack_at_most : (d : Duals) (i : ℕ) → slack_of I path d i ≤ℤ (pos (d.q * (site_at I i).fixed) +ℤ d.nu)
  slack_at_most d i =
      let paid = total_le (λ _. pos 0) (paid_at I path d i) (length I.customers) (λ k _. paid_at_least (is_allowed I path (site_at I i) (customer_at I k)) (v_at d k) (level_at I d i k)) in
      omega (arith, ints, paid, total_zero (λ _. pos 0) (length I.customers) (λ _ _. refl))

  module _ (valid : IsValid I) where
    lane_small : (i j : ℕ) → unwrap_or (lane I (site_at I i).id (customer_at I j).id) 0 ≤ MAX_AMOUNT
    lane_small i j = cost_within (lane I (site_at I i).id (customer_at I j).id) MAX_AMOUNT (valid.lanes_small (site_at I i).id (customer_at I j).id)

    zeros_have_room : HasRoom I path (pos (2 * MAX_AMOUNT)) (zeros I 1)
    zeros_have_room i j b c =
        let free : u_at (zeros I 1) i * (customer_at I j).demand ≡ 0 * (customer_at I j).demand = ap (λ u. u * (customer_at I j).demand) (zero_u I 1 i b) in
        let fixed : (site_at I i).fixed ≤ MAX_AMOUNT = valid.fixed_small i _ b in
        (omega (arith, ints, lane_small i j, free), omega (arith, ints, lane_small i j, free, fixed))

    zeros_are_under : IsUnder I path (pos (2 * MAX_AMOUNT)) (zeros I 1)
    zeros_are_under k b = omega (arith, ints, zero_v I 1 k b)

    module _ (e : Duals) (asc : IsAscended I path (zeros I 1) e) where
      keeps : Keeps I path (zeros I 1) e
      keeps = plain_keeps I path 1 (omega arith) (omega arith) valid e asc

      pub value_small : (k : ℕ) → k < length I.customers → v_at e k ≤ℤ pos (2 * MAX_AMOUNT)
      value_small =
          ascended_under I path (pos (2 * MAX_AMOUNT)) (customer_places I) (all_known I path) (zeros I 1) e (zeros_are_tame I path 1 (omega arith) (omega arith)).fit.of_instance.customers zeros_have_room zeros_are_under asc

      pub slack_small : (i : ℕ) → i < length I.sites → slack_of I path e i ≤ℤ pos MAX_AMOUNT
      slack_small i b =
          let fixed : (site_at I i).fixed ≤ MAX_AMOUNT = valid.fixed_small i _ b in
          omega (arith, ints, slack_at_most e i, fixed, ap (λ q. q * (site_at I i).fixed) keeps.scale, keeps.count_price)

      pub bound_small : bound_of I path e <ℤ pos (2 ^ 64)
      bound_small =
          let values = total_le (v_at e) (λ _. pos (2 * MAX_AMOUNT)) (length I.customers) value_small in
          let shares = total_le (share_of I path e) (λ _. pos MAX_AMOUNT) (length I.sites) (λ i b. share_at_most (is_opened path (site_at I i)) (is_free path (site_at I i)) (slack_of I path e i) MAX_AMOUNT (slack_small i b)) in
          let free : count_price I e.nu ≡ pos (0 * I.hi) = ap (count_price I) keeps.count_price in
          let all = bound_at_most (total (v_at e) (length I.customers)) (total (share_of I path e) (length I.sites)) (length I.sites) (length I.customers)
          (omega (arith, ints, values, total_price (2 * MAX_AMOUNT) (length I.customers))) (omega (arith, ints, shares, total_price MAX_AMOUNT (length I.sites))) valid.sizes.few_sites valid.sizes.few_customers in
          omega (arith, ints, all, free)
