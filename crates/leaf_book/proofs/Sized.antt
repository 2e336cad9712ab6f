-- How large slacks and bounds get.
use Rattle.std.proofs.Common.{◌≡◌, ℕ, ◌<◌, ◌≤◌, ◌+◌, ◌*◌, ◌^◌, zero, suc, refl, sym, subst, arith, Bool, true, false, length, ℤ, pos, negsuc, ◌+ℤ◌, ◌-ℤ◌}
use mir.Syntax.{w128}
use mir.Val.{to_z, of_z}
use Rattle.std.specs.Prelude.{if◌then◌else◌}
use Rattle.std.specs.Int.{int_min}
use Rattle.std.specs.Int.RustNames.{unsigned_abs}
use Rattle.std.proofs.lemmas.Int.{ints, clamps, unsigned_abs-mul}
use Rattle.std.proofs.lemmas.Nat.{mul-le}
use Rattle.location_terms.specs.Instance.{Instance, IsValid, site_at}
use Rattle.location_terms.specs.Box.{Path, is_opened, is_free}
use Rattle.location_terms.specs.Bound.{Duals, v_at, total, slack_of, share_of, count_price, bound_of}
use Rattle.location_terms.specs.Fit.{DualsFit}
use Rattle.location_terms.specs.declared.limits.TheConstants.{MAX_SITES, MAX_CUSTOMERS, MAX_VALUE}
use Rattle.dual_value.specs.declared.bounds.TheConstants.{MAX_SLACK, MAX_BOUND}
use Rattle.dual_value.proofs.Payments.{left_small, value_small}
use Rattle.dual_value.proofs.Sizes.{size-plus, size-minus, abs_above, abs_from, kept, difference_kept}
use Rattle.leaf_book.specs.Counts.{price_of}

-- a total of terms within a limit
pub total_small : (f : ℕ → ℤ) (n lim : ℕ) → ((i : ℕ) → i < n → unsigned_abs (f i) ≤ lim) → unsigned_abs (total f n) ≤ n * lim
unfolding total
total_small f zero lim h = omega arith
total_small f (suc n) lim h =
    let both = size-plus (total f n) (f n) (n * lim) lim (total_small f n lim (λ i b. h i (omega arith))) (h n (omega arith)) in
    omega (arith, both)

pub within_slack : (a b : Bool) (x : ℤ) (n : ℕ) → unsigned_abs x ≤ n → unsigned_abs (if a then x else (if b then int_min (pos 0) x else pos 0)) ≤ n
within_slack true b x n h = h
within_slack false false x n h = omega arith
within_slack false true x n h =
    let above = abs_above x n h in
    abs_from (int_min (pos 0) x) n (omega (arith, ints, clamps)) (omega (arith, ints, clamps, above))

pub price_small : (lo hi : ℕ) (nu : ℤ) → lo ≤ MAX_SITES → hi ≤ MAX_SITES → unsigned_abs nu ≤ MAX_VALUE → unsigned_abs (price_of lo hi nu) ≤ MAX_VALUE * MAX_SITES
price_small lo hi (pos n) low high few = mul-le n hi MAX_VALUE MAX_SITES few high
price_small lo hi (negsuc n) low high few = rw (unsigned_abs-mul (negsuc n) (pos lo)) (mul-le (unsigned_abs (negsuc n)) lo MAX_VALUE MAX_SITES few low)

price_is : (I : Instance) (nu : ℤ) → count_price I nu ≡ price_of I.lo I.hi nu
price_is I (pos n) = refl
price_is I (negsuc n) = refl

module _ (I : Instance) (path : Path) (d : Duals) (valid : IsValid I) (fit : DualsFit I d) where
  pub slack_small : (i : ℕ) → i < length I.sites → unsigned_abs (slack_of I path d i) ≤ MAX_SLACK
  slack_small i b = let left = left_small I path d valid fit i (length I.customers) b (omega arith) in omega (arith, left)

  pub bound_small : unsigned_abs (bound_of I path d) ≤ MAX_BOUND
  bound_small =
      let values = total_small (v_at d) (length I.customers) MAX_VALUE (value_small I path d valid fit) in
      let price : unsigned_abs (count_price I d.nu) ≤ MAX_VALUE * MAX_SITES =
      subst (λ x. unsigned_abs x ≤ MAX_VALUE * MAX_SITES) (sym (price_is I d.nu)) (price_small I.lo I.hi d.nu (let order = valid.count_order in let small = valid.count_small in omega (arith, order, small)) valid.count_small fit.in_limits.count_price) in
      let shares = total_small (share_of I path d) (length I.sites) MAX_SLACK (λ i b. within_slack (is_opened path (site_at I i)) (is_free path (site_at I i)) (slack_of I path d i) MAX_SLACK (slack_small i b)) in
      let custs = valid.sizes.few_customers in
      let sites = valid.sizes.few_sites in
      let first = size-minus (total (v_at d) (length I.customers)) (count_price I d.nu) (MAX_CUSTOMERS * MAX_VALUE) (MAX_VALUE * MAX_SITES) (omega (arith, values, custs)) price in
      let all = size-plus (total (v_at d) (length I.customers) -ℤ count_price I d.nu) (total (share_of I path d) (length I.sites)) (MAX_CUSTOMERS * MAX_VALUE + MAX_VALUE * MAX_SITES) (MAX_SITES * MAX_SLACK) first (omega (arith, shares, sites)) in
      omega (arith, all)

-- the sum that the code makes of a number and a difference
pub moved_kept : (b x y : ℤ) (l m n : ℕ) → unsigned_abs b ≤ l → unsigned_abs x ≤ m → unsigned_abs y ≤ n → l + (m + n) < 2 ^ 127 → to_z w128 (of_z w128 (to_z w128 (of_z w128 b) +ℤ to_z w128 (of_z w128 (to_z w128 (of_z w128 x) -ℤ to_z w128 (of_z w128 y))))) ≡ b +ℤ (x -ℤ y)
moved_kept b x y l m n h k j small =
    rw (kept b l h (omega arith), difference_kept x y m n k j (omega arith)) (kept (b +ℤ (x -ℤ y)) (l + (m + n)) (size-plus b (x -ℤ y) l (m + n) h (size-minus x y m n k j)) small)
