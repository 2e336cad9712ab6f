-- The rays of a number of sites: too many are opened, or too few may be open.
use Rattle.std.proofs.Common.{◌≡◌, ℕ, ◌*◌, ◌<◌, ◌≤◌, refl, sym, subst, arith, Bool, true, false, cond, List, [], ◌∷◌, length, Option, ℤ, pos, negsuc, ◌+ℤ◌, ◌≤ℤ◌}
use Rattle.std.specs.Prelude.{◌&&◌, not, filter, sum_by, if◌then◌else◌, unsigned_abs}
use Rattle.std.specs.Int.{int_min}
use Rattle.std.proofs.lemmas.Int.{ints, clamps}
use Rattle.std.proofs.lemmas.List.Sums.{sum_by-cons}
use Rattle.location_terms.specs.Instance.{Instance, site_at, customer_at}
use Rattle.location_terms.specs.Box.{Path, is_allowed, is_called_for, is_closed, is_opened, is_free}
use Rattle.location_terms.specs.Bound.{Duals, total, v_at, u_at, level_at, paid_at, slack_of, share_of, bound_of}
use Rattle.location_terms.specs.Fit.{DualsFit}
use Rattle.location_terms.specs.declared.limits.TheConstants.{MAX_VALUE}
use Rattle.location_terms.proofs.Totals.{total_zero, total_plus, total_le}
use Rattle.dual_value.proofs.Zeros.{zero_v, zero_u, zeros_fit}
use Rattle.dual_ascent.specs.Levels.{site_places}
use Rattle.plan_search.specs.Packed.{opened_places}
use Rattle.tree_search.specs.Made.{IsMadeLeaf}
use Rattle.tree_search.specs.Rays.{possible_count, count_ray}
use Rattle.dual_ascent.proofs.Plain.{nothing_paid, no_cap_price}
use Rattle.tree_search.proofs.PlaceSums.{kept_at_most, kept_is_total}

length-ones : (xs : List ℕ) → sum_by (λ i. 1) xs ≡ length xs
length-ones [] = refl
length-ones (x ∷ xs) = omega (arith, sum_by-cons (λ (i : ℕ). 1) x xs, length-ones xs)

-- a site's share at a price of 1, and at one of -1
share_above : (opened free : Bool) (slack : ℤ) → slack ≡ pos 1 → cond opened (pos (1 * 1)) (pos 0) ≤ℤ (if opened then slack else (if free then int_min (pos 0) slack else pos 0))
share_above true free slack e = omega (arith, ints, e)
share_above false true slack e = omega (arith, ints, clamps, e)
share_above false false slack e = omega (arith, ints)

share_below : (called closed : Bool) (slack : ℤ) → slack ≡ negsuc 0
    → pos 0 ≤ℤ ((if called && not closed then slack else (if not called && not closed then int_min (pos 0) slack else pos 0)) +ℤ cond (not closed) (pos (1 * 1)) (pos 0))
share_below true true slack e = omega (arith, ints)
share_below true false slack e = omega (arith, ints, e)
share_below false true slack e = omega (arith, ints)
share_below false false slack e = omega (arith, ints, clamps, e)

module _ (I : Instance) (path : Path) (nu : ℤ) (small : unsigned_abs nu ≤ MAX_VALUE) where
  abbrev priced : Duals
  priced = count_ray I nu

  priced_fits : DualsFit I priced
  priced_fits =
      let zero = zeros_fit I 0 (omega arith) in
      record {
        in_limits = record { scale = zero.in_limits.scale; count_price = small; values = zero.in_limits.values; multipliers = zero.in_limits.multipliers };
        of_instance = record { customers = zero.of_instance.customers; sites = zero.of_instance.sites; unpriced = zero.of_instance.unpriced };
      }

  unpaid_level : (i j : ℕ) → pos 0 ≤ℤ level_at I priced i j
  unpaid_level i j = omega (arith, ints)

  priced_slack : (i : ℕ) → i < length I.sites → slack_of I path priced i ≡ nu
  priced_slack i b =
      let unpaid = total_zero (paid_at I path priced i) (length I.customers)
      (λ j c. nothing_paid (is_allowed I path (site_at I i) (customer_at I j)) (v_at priced j) (level_at I priced i j) (λ _. omega (arith, ints, zero_v I 0 j c, unpaid_level i j))) in
      let free : 0 * (site_at I i).fixed ≡ 0 = omega arith in
      omega (arith, ints, unpaid, free, no_cap_price (u_at priced i) (site_at I i).cap (zero_u I 0 i b))

  priced_values : total (v_at priced) (length I.customers) ≡ pos 0
  priced_values = total_zero (v_at priced) (length I.customers) (λ j c. zero_v I 0 j c)

  pub closes_count : pos 1 ≤ℤ bound_of I path priced → (cost : Option ℕ) (old_path : Path) (old d : Duals) → d ≡ priced → IsMadeLeaf I cost old_path old path d
  closes_count above cost old_path old d is =
      subst (IsMadeLeaf I cost old_path old path) (sym is) (record { fit = priced_fits; ray = λ _. above; scaled = λ some. absurd (omega (arith, some)) })

module _ (I : Instance) (path : Path) where
  -- more sites are opened than may be open
  opened_bound : I.hi < length (opened_places I path) → pos 1 ≤ℤ bound_of I path (count_ray I (pos 1))
  opened_bound over =
      let shares = kept_at_most 1 (λ i. 1) (length I.sites) (share_of I path (count_ray I (pos 1))) (λ i. is_opened path (site_at I i))
      (λ i b. share_above (is_opened path (site_at I i)) (is_free path (site_at I i)) (slack_of I path (count_ray I (pos 1)) i) (priced_slack I path (pos 1) (omega arith) i b)) in
      let many : sum_by (λ (i : ℕ). 1) (opened_places I path) ≡ length (opened_places I path) = length-ones (opened_places I path) in
      omega (arith, ints, over, shares, many, priced_values I path (pos 1) (omega arith))

  pub opened_ray : I.hi < length (opened_places I path) → (cost : Option ℕ) (old_path : Path) (old d : Duals) → d ≡ count_ray I (pos 1) → IsMadeLeaf I cost old_path old path d
  opened_ray over = closes_count I path (pos 1) (omega arith) (opened_bound over)

  -- fewer sites may be open than have to be
  possible_bound : possible_count I path < I.lo → pos 1 ≤ℤ bound_of I path (count_ray I (negsuc 0))
  possible_bound few =
      let possible : ℕ → Bool = λ i. not (is_closed path (site_at I i)) in
      let ray : Duals = count_ray I (negsuc 0) in
      let each = total_le (λ i. pos 0) (λ i. share_of I path ray i +ℤ cond (possible i) (pos (1 * 1)) (pos 0)) (length I.sites)
      (λ i b. share_below (is_called_for path (site_at I i)) (is_closed path (site_at I i)) (slack_of I path ray i) (priced_slack I path (negsuc 0) (omega arith) i b)) in
      let none = total_zero (λ i. pos 0) (length I.sites) (λ _ _. refl) in
      let both = total_plus (share_of I path ray) (λ i. cond (possible i) (pos (1 * 1)) (pos 0)) (length I.sites) in
      let kept = kept_is_total 1 (λ i. 1) (length I.sites) possible in
      let many : sum_by (λ (i : ℕ). 1) (filter possible (site_places I)) ≡ possible_count I path = length-ones (filter possible (site_places I)) in
      omega (arith, ints, few, each, none, both, kept, many, priced_values I path (negsuc 0) (omega arith))

  pub possible_ray : possible_count I path < I.lo → (cost : Option ℕ) (old_path : Path) (old d : Duals) → d ≡ count_ray I (negsuc 0) → IsMadeLeaf I cost old_path old path d
  possible_ray few = closes_count I path (negsuc 0) (omega arith) (possible_bound few)
