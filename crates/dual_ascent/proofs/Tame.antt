-- From tame duals the ascent never leaves the limits, and has a result.
use Rattle.std.proofs.Common.{◌≡◌, ℕ, ◌+◌, ◌*◌, ◌<◌, ◌≤◌, sym, subst, ◌∙◌, arith, length, List, Option, Some, None, unwrap_or, ℤ, pos, ◌+ℤ◌, ◌≤ℤ◌}
use Rattle.std.specs.Prelude.{All, IfSome, unsigned_abs, slice_index}
use Rattle.std.proofs.lemmas.Int.{ints}
use Rattle.std.proofs.lemmas.Nat.{mul-le}
use Rattle.std.proofs.lemmas.List.Elements.{All-from_get_or}
use Rattle.location_terms.specs.Instance.{Instance, IsValid, site_at, customer_at, lane}
use Rattle.location_terms.specs.Box.{Path}
use Rattle.location_terms.specs.Bound.{Duals, AreDualsOf, v_at, u_at}
use Rattle.location_terms.specs.Fit.{AreInLimits, AreTame}
use Rattle.location_terms.specs.declared.limits.TheConstants.{MAX_AMOUNT, MAX_SCALE, MAX_VALUE, MAX_TAME, MAX_MULTIPLIER}
use Rattle.dual_value.proofs.Sizes.{abs_below, abs_above, abs_from}
use Rattle.dual_ascent.specs.Ascent.{IsAscendedOver}
use Rattle.dual_ascent.proofs.Raised.{IsRisen}
use Rattle.dual_ascent.proofs.Rounds.{AreKnown, ascended_is_risen}
use Rattle.dual_ascent.proofs.Ceiling.{HasRoom, IsUnder}
use Rattle.dual_ascent.proofs.Ends.{ascended_under, ascent_ends}

pub cost_within : (o : Option ℕ) (n : ℕ) → IfSome o (λ c. c ≤ n) → unwrap_or o 0 ≤ n
cost_within None n h = omega arith
cost_within (Some c) n h = h

within_scale : (q c : ℕ) → q ≤ MAX_SCALE → c ≤ MAX_AMOUNT → q * c ≤ MAX_SCALE * MAX_AMOUNT
within_scale q c h k = mul-le q c MAX_SCALE MAX_AMOUNT h k

level_low : (scaled price : ℕ) → scaled ≤ MAX_SCALE * MAX_AMOUNT → price ≤ MAX_TAME → pos (scaled + price) ≤ℤ pos MAX_VALUE
level_low scaled price h k = omega (arith, ints)

cost_low : (scaled price fixed : ℕ) (nu : ℤ) → scaled ≤ MAX_SCALE * MAX_AMOUNT → price ≤ MAX_TAME → fixed ≤ MAX_SCALE * MAX_AMOUNT → nu ≤ℤ pos MAX_TAME → (pos (scaled + price) +ℤ (pos fixed +ℤ nu)) ≤ℤ pos MAX_VALUE
cost_low scaled price fixed nu h k l m = omega (arith, ints)

module _ (I : Instance) (path : Path) (valid : IsValid I) (d : Duals) (tame : AreTame I d) where
  pub tame_has_room : HasRoom I path (pos MAX_VALUE) d
  tame_has_room i j b c =
      let priced : i < length d.u = omega (arith, b, tame.fit.of_instance.sites) in
      let scaled : d.q * unwrap_or (lane I (site_at I i).id (customer_at I j).id) 0 ≤ MAX_SCALE * MAX_AMOUNT = within_scale d.q (unwrap_or (lane I (site_at I i).id (customer_at I j).id) 0) tame.fit.in_limits.scale (cost_within (lane I (site_at I i).id (customer_at I j).id) MAX_AMOUNT (valid.lanes_small (site_at I i).id (customer_at I j).id)) in
      let price : u_at d i * (customer_at I j).demand ≤ MAX_TAME = tame.demand_prices i 0 priced j _ c in
      let fixed : d.q * (site_at I i).fixed ≤ MAX_SCALE * MAX_AMOUNT = within_scale d.q (site_at I i).fixed tame.fit.in_limits.scale (valid.fixed_small i _ b) in
      let nu = abs_below d.nu MAX_TAME tame.count_price in (
        level_low (d.q * unwrap_or (lane I (site_at I i).id (customer_at I j).id) 0) (u_at d i * (customer_at I j).demand) scaled price,
        cost_low (d.q * unwrap_or (lane I (site_at I i).id (customer_at I j).id) 0) (u_at d i * (customer_at I j).demand) (d.q * (site_at I i).fixed) d.nu scaled price fixed nu,
      )

  value_small : (k : ℕ) → k < length I.customers → unsigned_abs (v_at d k) ≤ MAX_VALUE
  value_small k b = let inside : k < length d.v = omega (arith, b, tame.fit.of_instance.customers) in tame.fit.in_limits.values k (pos 0) inside

  pub tame_is_under : IsUnder I path (pos MAX_VALUE) d
  tame_is_under k b = abs_below (v_at d k) MAX_VALUE (value_small k b)

  module _ (e : Duals) (up : IsRisen I path d e) (under : IsUnder I path (pos MAX_VALUE) e) where
    e_small : (k : ℕ) → k < length e.v → unsigned_abs (v_at e k) ≤ MAX_VALUE
    e_small k b =
        let inside : k < length I.customers = omega (arith, b, up.customers, tame.fit.of_instance.customers) in
        let high = under k inside in
        let low = abs_above (v_at d k) MAX_VALUE (value_small k inside) in
        abs_from (v_at e k) MAX_VALUE high (omega (arith, ints, low, up.above k))

    -- duals that rose below the greatest value are tame
    pub tame_rises : AreTame I e
    tame_rises =
        let in_limits : AreInLimits e =
        record { scale = subst (λ q. q ≤ MAX_SCALE) (sym up.scale) tame.fit.in_limits.scale; count_price = subst (λ z. unsigned_abs z ≤ MAX_VALUE) (sym up.count_price) tame.fit.in_limits.count_price; values = All-from_get_or (λ v. unsigned_abs v ≤ MAX_VALUE) e.v (pos 0) e_small; multipliers = subst (λ us. All (λ u. u ≤ MAX_MULTIPLIER) us) (sym up.prices) tame.fit.in_limits.multipliers } in
        let of_instance : AreDualsOf I e =
        record { customers = up.customers ∙ tame.fit.of_instance.customers; sites = subst (λ us. length us ≡ length I.sites) (sym up.prices) tame.fit.of_instance.sites; unpriced = subst (λ us. (i : ℕ) → i < length I.sites → (site_at I i).cap ≡ None → slice_index us i ≡ 0) (sym up.prices) tame.fit.of_instance.unpriced } in
        record { fit = record { in_limits = in_limits; of_instance = of_instance }; scaled = subst (λ q. 1 ≤ q) (sym up.scale) tame.scaled; count_price = subst (λ z. unsigned_abs z ≤ MAX_TAME) (sym up.count_price) tame.count_price; demand_prices = subst (λ us. All (λ u. All (λ c. u * c.demand ≤ MAX_TAME) I.customers) us) (sym up.prices) tame.demand_prices }

  module _ (customers : List ℕ) (known : AreKnown I path customers) where
    pub tame_ascent_ends : (result : Duals) × IsAscendedOver I path customers d result
    tame_ascent_ends = ascent_ends I path (pos MAX_VALUE) customers known d tame.fit.of_instance.customers tame_has_room tame_is_under

    -- the ascent's duals are tame
    pub tame_stays : (e : Duals) → IsAscendedOver I path customers d e → AreTame I e
    tame_stays e asc =
        tame_rises e (ascended_is_risen I path customers known d e tame.fit.of_instance.customers asc)
        (ascended_under I path (pos MAX_VALUE) customers known d e tame.fit.of_instance.customers tame_has_room tame_is_under asc)
