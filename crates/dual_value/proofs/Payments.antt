-- Which lanes a customer's dual doesn't pay, and how great slacks are while customers pay one after the other.
use Rattle.std.proofs.Common.{◌≡◌, ℕ, ◌+◌, ◌*◌, ◌<◌, ◌≤◌, refl, ap, arith, Bool, true, false, not, ◌&&◌, cond, length, None, Some, Option, ℤ, pos, ◌+ℤ◌, ◌-ℤ◌, ◌≤ℤ◌}
use Rattle.std.specs.Prelude.{is_some, unwrap_or, IfSome}
use Rattle.std.specs.Int.{int_max}
use Rattle.std.specs.Int.RustNames.{unsigned_abs}
use Rattle.std.specs.Int.Signed.{le_z_yes}
use Rattle.std.proofs.lemmas.Float.{T_from_true}
use Rattle.std.specs.List.{list_any}
use Rattle.std.proofs.Math.Nat.{mul-le-mul}
use Rattle.std.proofs.lemmas.Bool.{and_left, and_right, cond-false}
use Rattle.std.proofs.lemmas.Int.{ints, clamps}
use Rattle.location_terms.specs.Instance.{Instance, IsValid, Site, Customer, site_at, customer_at, lane}
use Rattle.location_terms.specs.Box.{Path, is_torn, is_closed, is_allowed, bars_lane, holds_demand}
use Rattle.location_terms.specs.Bound.{Duals, total, paid_at, v_at, u_at, level_at, cap_price}
use Rattle.location_terms.specs.Fit.{DualsFit}
use Rattle.location_terms.specs.declared.limits.TheConstants.{MAX_AMOUNT, MAX_SCALE, MAX_MULTIPLIER, MAX_VALUE}
use Rattle.location_terms.proofs.Totals.{total_le, total_price}
use Rattle.dual_value.specs.Paid.{is_dear, priced_cost}
use Rattle.dual_value.specs.declared.bounds.TheConstants.{MAX_SLACK}
use Rattle.dual_value.proofs.Sizes.{abs_below, abs_from, size_pos, size-plus, size-minus}

second_fails : (a b c d e : Bool) → b ≡ false → (a && b && c && d && e) ≡ false
second_fails a b c d e h = and_left (a && b && c && d) e (and_left (a && b && c) d (and_left (a && b) c (and_right a b h)))

-- what is paid over a level, with the test in the place of the box
at_most : (allowed : Bool) (v level : ℤ) (n : ℕ) → unsigned_abs v ≤ n → pos 0 ≤ℤ level → (pos 0 ≤ℤ cond allowed (int_max (pos 0) (v -ℤ level)) (pos 0)) × (cond allowed (int_max (pos 0) (v -ℤ level)) (pos 0) ≤ℤ pos n)
at_most false v level n size low = (omega (arith, ints), omega (arith, ints))
at_most true v level n size low = let high = abs_below v n size in (omega (arith, ints, clamps), omega (arith, ints, clamps))

nothing_over : (allowed : Bool) (v level : ℤ) → v ≤ℤ level → cond allowed (int_max (pos 0) (v -ℤ level)) (pos 0) ≡ pos 0
nothing_over false v level dear = refl
nothing_over true v level dear = omega (arith, ints, clamps)

module _ (I : Instance) (path : Path) (d : Duals) (i j : ℕ) where
  abbrev s : Site
  s = site_at I i

  abbrev c : Customer
  c = customer_at I j

  abbrev allowed : Bool
  allowed = is_allowed I path s c

  -- nothing is paid where there is no lane
  pub unpaid_without_lane : lane I s.id c.id ≡ None → paid_at I path d i j ≡ pos 0
  unpaid_without_lane none =
      cond-false allowed (int_max (pos 0) (v_at d j -ℤ level_at I d i j)) (pos 0)
      (second_fails (not (is_torn I path)) (is_some (lane I s.id c.id)) (not (is_closed path s)) (not (list_any (bars_lane s.id c.id) path)) (holds_demand s.cap c.demand) (ap is_some none))

  -- nor for a lane that costs as much as the dual
  pub unpaid_when_dear : (cost : ℕ) → lane I s.id c.id ≡ Some cost → v_at d j ≤ℤ pos (d.q * cost) → paid_at I path d i j ≡ pos 0
  unpaid_when_dear cost is dear =
      let level : level_at I d i j ≡ pos (d.q * cost + u_at d i * c.demand) = ap (λ o. pos (d.q * unwrap_or o 0 + u_at d i * c.demand)) is in
      nothing_over allowed (v_at d j) (level_at I d i j) (omega (arith, ints, level, dear))

  pub unpaid_when_is_dear : (o : Option ℕ) → lane I s.id c.id ≡ o → is_dear d.q (v_at d j) o ≡ true → paid_at I path d i j ≡ pos 0
  unpaid_when_is_dear None is dear = unpaid_without_lane is
  unpaid_when_is_dear (Some cost) is dear = unpaid_when_dear cost is (le_z_yes (T_from_true _ dear))

  pub paid_bounds : unsigned_abs (v_at d j) ≤ MAX_VALUE → (pos 0 ≤ℤ paid_at I path d i j) × (paid_at I path d i j ≤ℤ pos MAX_VALUE)
  paid_bounds size = at_most allowed (v_at d j) (level_at I d i j) MAX_VALUE size (omega (arith, ints))

module _ (I : Instance) (path : Path) (d : Duals) (valid : IsValid I) (fit : DualsFit I d) where
  pub value_small : (j : ℕ) → j < length I.customers → unsigned_abs (v_at d j) ≤ MAX_VALUE
  value_small j b = fit.in_limits.values j (pos 0) (omega (arith, b, fit.of_instance.customers))

  price_small : (i : ℕ) → i < length I.sites → u_at d i ≤ MAX_MULTIPLIER
  price_small i b = fit.in_limits.multipliers i 0 (omega (arith, b, fit.of_instance.sites))

  -- what the lanes' levels come to
  pub scaled_small : (cost : ℕ) → cost ≤ MAX_AMOUNT → d.q * cost ≤ MAX_SCALE * MAX_AMOUNT
  scaled_small cost small = mul-le-mul fit.in_limits.scale small

  pub level_small : (i j cost : ℕ) → i < length I.sites → j < length I.customers → cost ≤ MAX_AMOUNT → d.q * cost + u_at d i * (customer_at I j).demand ≤ MAX_SCALE * MAX_AMOUNT + MAX_MULTIPLIER * MAX_AMOUNT
  level_small i j cost b within small =
      let demand : u_at d i * (customer_at I j).demand ≤ MAX_MULTIPLIER * MAX_AMOUNT = mul-le-mul (price_small i b) (valid.demands_small j _ within) in
      omega (arith, scaled_small cost small, demand)

  cap_price_small : (u : ℕ) (cap : Option ℕ) → u ≤ MAX_MULTIPLIER → IfSome cap (λ n. n ≤ MAX_AMOUNT) → cap_price u cap ≤ MAX_MULTIPLIER * MAX_AMOUNT
  cap_price_small u None few small = omega arith
  cap_price_small u (Some cap) few small = mul-le-mul few small

  priced_small : (i : ℕ) → i < length I.sites → unsigned_abs (priced_cost I d i) ≤ (MAX_SCALE * MAX_AMOUNT + MAX_VALUE) + MAX_MULTIPLIER * MAX_AMOUNT
  priced_small i b =
      let s = site_at I i in
      let fixed : d.q * s.fixed ≤ MAX_SCALE * MAX_AMOUNT = mul-le-mul fit.in_limits.scale (valid.fixed_small i _ b) in
      let capped = cap_price_small (u_at d i) s.cap (price_small i b) (valid.caps_small i _ b) in
      size-minus (pos (d.q * s.fixed) +ℤ d.nu) (pos (cap_price (u_at d i) s.cap)) (MAX_SCALE * MAX_AMOUNT + MAX_VALUE) (MAX_MULTIPLIER * MAX_AMOUNT)
      (size-plus (pos (d.q * s.fixed)) d.nu (MAX_SCALE * MAX_AMOUNT) MAX_VALUE (size_pos (pos (d.q * s.fixed)) (d.q * s.fixed) (MAX_SCALE * MAX_AMOUNT) refl fixed) fit.in_limits.count_price)
      (size_pos (pos (cap_price (u_at d i) s.cap)) (cap_price (u_at d i) s.cap) (MAX_MULTIPLIER * MAX_AMOUNT) refl capped)

  -- what the first n customers pay at a site
  paid_small : (i n : ℕ) → n ≤ length I.customers → unsigned_abs (total (paid_at I path d i) n) ≤ MAX_VALUE * n
  paid_small i n few =
      let each : (j : ℕ) → j < n → (pos 0 ≤ℤ paid_at I path d i j) × (paid_at I path d i j ≤ℤ pos MAX_VALUE) = λ j b. paid_bounds I path d i j (value_small j (omega (arith, b, few))) in
      let low = total_le (λ _. pos 0) (paid_at I path d i) n (λ j b. (each j b).0) in
      let high = total_le (paid_at I path d i) (λ _. pos MAX_VALUE) n (λ j b. (each j b).1) in
      abs_from (total (paid_at I path d i) n) (MAX_VALUE * n) (omega (arith, ints, high, total_price MAX_VALUE n)) (omega (arith, ints, low, total_price 0 n))

  -- what they leave of the site's priced cost is well within the size of a slack
  pub left_small : (i n : ℕ) → i < length I.sites → n ≤ length I.customers → unsigned_abs (priced_cost I d i -ℤ total (paid_at I path d i) n) + MAX_VALUE ≤ MAX_SLACK
  left_small i n b few =
      let both = size-minus (priced_cost I d i) (total (paid_at I path d i) n) ((MAX_SCALE * MAX_AMOUNT + MAX_VALUE) + MAX_MULTIPLIER * MAX_AMOUNT) (MAX_VALUE * n) (priced_small i b) (paid_small i n few) in
      let custs = valid.sizes.few_customers in
      omega (arith, both, few, custs)
