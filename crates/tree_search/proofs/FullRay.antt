-- The ray of an opened site that holds less than its forced customers demand: its bound is what they demand less the capacity.
use Rattle.std.proofs.Common.{◌≡◌, ◌≢◌, ℕ, ◌*◌, ◌<◌, ◌≤◌, refl, sym, ap, subst, ◌∙◌, zero-add, inl, inr, arith, Bool, true, false, cond, List, length, get_or, Option, None, Some, ℤ, pos, ◌-ℤ◌, ◌≤ℤ◌}
use Rattle.std.specs.Prelude.{replicate, unsigned_abs, if◌then◌else◌, nat_le}
use Rattle.std.proofs.lemmas.Int.{ints}
use Rattle.std.proofs.lemmas.Bool.{cases_eq, cases_lt, cases_Bool, le-leb, both_ways}
use Rattle.std.proofs.lemmas.List.{length-map, length-set, length-replicate, get_or-map, get_or-set_same, get_or-set_other, get_or-replicate}
use Rattle.std.proofs.lemmas.List.Elements.{All-map, All-set, All-replicate}
use Rattle.std.proofs.lemmas.List.FromFn.{get_or-range_with_len, length-range_with_len}
use Rattle.location_terms.specs.Instance.{Instance, IsValid, site_at, customer_at}
use Rattle.location_terms.specs.Box.{Path, is_allowed, is_opened, is_free, holds_demand}
use Rattle.location_terms.specs.Bound.{Duals, total, v_at, u_at, level_at, paid_at, cap_price, slack_of, share_of, bound_of}
use Rattle.location_terms.specs.Fit.{DualsFit}
use Rattle.location_terms.specs.declared.limits.TheConstants.{MAX_VALUE, MAX_MULTIPLIER}
use Rattle.location_terms.proofs.Totals.{total_zero, total_one, total_same}
use Rattle.dual_ascent.specs.Levels.{customer_places}
use Rattle.tree_search.specs.Made.{IsMadeLeaf}
use Rattle.tree_search.specs.Rays.{is_forced, forced_demand, forced_ray}
use Rattle.dual_ascent.proofs.Plain.{nothing_paid, no_cap_price}
use Rattle.tree_search.proofs.UnservedRay.{no_share}
use Rattle.tree_search.proofs.PlaceSums.{kept_is_total}
use Rattle.tree_search.proofs.ForcedDemands.{forced_alone, small_demand}

over_cap : (o : Option ℕ) (demand : ℕ) → holds_demand o demand ≡ false → (cap : ℕ) × (o ≡ Some cap) × (cap < demand)
over_cap None demand e = cc
over_cap (Some cap) demand e =
    (cap, refl, elim (cases_lt cap demand) [ inl less ↦ less | inr within ↦ absurd (both_ways (nat_le demand cap) e (le-leb demand cap within)) ])

price_is : (u cap : ℕ) (o : Option ℕ) → u ≡ 1 → o ≡ Some cap → cap_price u o ≡ cap
price_is u cap None e f = cc
price_is u cap (Some c) e f = let same : c ≡ cap = cc in ap (λ n. n * c) e ∙ omega (arith, same)

not_none : (o : Option ℕ) (cap : ℕ) → o ≡ Some cap → o ≡ None → ⊥
not_none o cap e f = cc

size_small : (b : Bool) (d : ℕ) → d ≤ MAX_VALUE → unsigned_abs (if b then pos d else pos 0) ≤ MAX_VALUE
size_small true d h = h
size_small false d h = omega arith

opened_share : (opened free : Bool) (slack : ℤ) (x : ℤ) → opened ≡ true → (if opened then slack else x) ≡ slack
opened_share true free slack x e = refl
opened_share false free slack x e = cc

scaled_if : (b : Bool) (d : ℕ) → (if b then pos d else pos 0) ≡ cond b (pos (1 * d)) (pos 0)
scaled_if true d = ap pos (omega arith)
scaled_if false d = refl

if_forced : (b : Bool) (d : ℕ) → b ≡ true → (if b then pos d else pos 0) ≡ pos d
if_forced true d e = refl
if_forced false d e = cc

if_free : (b : Bool) (d : ℕ) → b ≡ false → (if b then pos d else pos 0) ≡ pos 0
if_free false d e = refl
if_free true d e = cc

module _ (I : Instance) (path : Path) (valid : IsValid I) (i : ℕ) (b : i < length I.sites) (opened : is_opened path (site_at I i) ≡ true) (over : holds_demand (site_at I i).cap (forced_demand I path i) ≡ false) where
  abbrev ray : Duals
  ray = forced_ray I path i

  abbrev value : ℕ → ℤ
  value j = if is_forced I path i j then pos (customer_at I j).demand else pos 0

  limit : (cap : ℕ) × ((site_at I i).cap ≡ Some cap) × (cap < forced_demand I path i)
  limit = over_cap (site_at I i).cap (forced_demand I path i) over

  value_at : (j : ℕ) → j < length I.customers → v_at ray j ≡ value j
  value_at j c =
      get_or-map value (customer_places I) j 0 (pos 0) (omega (arith, c, length-range_with_len 0 (length I.customers))) ∙ ap value (get_or-range_with_len 0 (length I.customers) j 0 c ∙ zero-add j)

  price_here : u_at ray i ≡ 1
  price_here =
      let none : ℕ = 0 in
      let prices : List ℕ = replicate (length I.sites) none in
      let many : length prices ≡ length I.sites = length-replicate (length I.sites) none in
      get_or-set_same prices i 1 0 (omega (arith, b, many))

  price_elsewhere : (k : ℕ) → k < length I.sites → k ≢ i → u_at ray k ≡ 0
  price_elsewhere k c other = get_or-set_other (replicate (length I.sites) 0) i k 1 0 other ∙ get_or-replicate (length I.sites) k 0 0 c

  ray_fits : DualsFit I ray
  ray_fits = record {
    in_limits = record {
      scale = omega arith;
      count_price = omega arith;
      values = All-map (λ v. unsigned_abs v ≤ MAX_VALUE) value (customer_places I) (λ k d c. let j : ℕ = get_or (customer_places I) k d in size_small (is_forced I path i j) (customer_at I j).demand (omega (arith, small_demand I path valid j)));
      multipliers = All-set (λ u. u ≤ MAX_MULTIPLIER) (replicate (length I.sites) 0) i 1 (omega arith) (All-replicate (λ u. u ≤ MAX_MULTIPLIER) (length I.sites) 0 (omega arith));
    };
    of_instance = record {
      customers = length-map (customer_places I) value ∙ length-range_with_len 0 (length I.customers);
      sites = length-set (replicate (length I.sites) 0) i 1 ∙ length-replicate (length I.sites) 0;
      unpriced = λ k c none. elim (cases_eq k i) [
        | inl same ↦ absurd (not_none (site_at I i).cap limit.0 limit.1 (subst (λ n. (site_at I n).cap ≡ None) same none))
        | inr other ↦ price_elsewhere k c other
      ];
    };
  }

  -- no lane is paid above its level
  lane_within : (k j : ℕ) → k < length I.sites → j < length I.customers → is_allowed I path (site_at I k) (customer_at I j) ≡ true → v_at ray j ≤ℤ level_at I ray k j
  lane_within k j c e allowed =
      elim (cases_Bool (is_forced I path i j)) [
        | inl forced ↦
            let same : k ≡ i = forced_alone I path i k j b c forced allowed in
            let price : u_at ray k ≡ 1 = ap (u_at ray) same ∙ price_here in
            let dual : v_at ray j ≡ pos (customer_at I j).demand = value_at j e ∙ if_forced _ _ forced in
            omega (arith, ints, dual, ap (λ u. u * (customer_at I j).demand) price)
        | inr free ↦
            let dual : v_at ray j ≡ pos 0 = value_at j e ∙ if_free _ _ free in
            omega (arith, ints, dual)
      ]

  unpaid : (k : ℕ) → k < length I.sites → total (paid_at I path ray k) (length I.customers) ≡ pos 0
  unpaid k c = total_zero (paid_at I path ray k) (length I.customers) (λ j e. nothing_paid (is_allowed I path (site_at I k) (customer_at I j)) (v_at ray j) (level_at I ray k j) (lane_within k j c e))

  slack_elsewhere : (k : ℕ) → k < length I.sites → k ≢ i → slack_of I path ray k ≡ pos 0
  slack_elsewhere k c other =
      let free : 0 * (site_at I k).fixed ≡ 0 = omega arith in
      omega (arith, ints, unpaid k c, free, no_cap_price (u_at ray k) (site_at I k).cap (price_elsewhere k c other))

  slack_here : slack_of I path ray i ≡ pos 0 -ℤ pos limit.0
  slack_here =
      let free : 0 * (site_at I i).fixed ≡ 0 = omega arith in
      let price : cap_price (u_at ray i) (site_at I i).cap ≡ limit.0 = price_is (u_at ray i) limit.0 (site_at I i).cap price_here limit.1 in
      omega (arith, ints, unpaid i b, free, price)

  shares : total (share_of I path ray) (length I.sites) ≡ pos 0 -ℤ pos limit.0
  shares =
      total_one (share_of I path ray) (length I.sites) i b (λ k c other. no_share (is_opened path (site_at I k)) (is_free path (site_at I k)) (slack_of I path ray k) (slack_elsewhere k c other))
      ∙ opened_share (is_opened path (site_at I i)) (is_free path (site_at I i)) (slack_of I path ray i) _ opened ∙ slack_here

  values : total (v_at ray) (length I.customers) ≡ pos (1 * forced_demand I path i)
  values =
      total_same (v_at ray) (λ j. cond (is_forced I path i j) (pos (1 * (customer_at I j).demand)) (pos 0)) (length I.customers) (λ j c. value_at j c ∙ scaled_if (is_forced I path i j) (customer_at I j).demand)
      ∙ kept_is_total 1 (λ j. (customer_at I j).demand) (length I.customers) (is_forced I path i)

  full_bound : pos 1 ≤ℤ bound_of I path ray
  full_bound =
      let free : 0 * I.hi ≡ 0 = omega arith in
      omega (arith, ints, values, shares, free, limit.2)

  pub full_is_made : (cost : Option ℕ) (old_path : Path) (old d : Duals) → d ≡ ray → IsMadeLeaf I cost old_path old path d
  full_is_made cost old_path old d is =
      subst (IsMadeLeaf I cost old_path old path) (sym is) (record { fit = ray_fits; ray = λ _. full_bound; scaled = λ some. absurd (omega (arith, some)) })
