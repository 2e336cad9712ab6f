-- The sizes of values, levels and slacks of fit duals.
use Rattle.std.proofs.Common.{◌≡◌, ℕ, ◌+◌, ◌*◌, ◌<◌, ◌≤◌, ap, ◌∙◌, arith, length, Option, Some, unwrap_or, ℤ, pos}
use mir.Syntax.{w128}
use mir.Val.{to_z, of_z}
use Rattle.std.specs.Prelude.{unsigned_abs}
use Rattle.std.proofs.lemmas.Nat.{mul-le}
use Rattle.location_terms.specs.Instance.{Instance, IsValid, site_at, customer_at, lane}
use Rattle.location_terms.specs.Box.{Path}
use Rattle.location_terms.specs.Bound.{Duals, v_at, u_at, level_at, slack_of}
use Rattle.location_terms.specs.Fit.{DualsFit}
use Rattle.location_terms.specs.declared.limits.TheConstants.{MAX_AMOUNT, MAX_SCALE, MAX_VALUE, MAX_MULTIPLIER}
use Rattle.dual_value.specs.declared.bounds.TheConstants.{MAX_SLACK}
use Rattle.dual_value.proofs.Sizes.{size_pos, kept}
use Rattle.dual_value.proofs.Payments.{value_small, level_small, left_small}
use Rattle.dual_ascent.proofs.Tame.{cost_within}

-- what `level` gives of a lane is its level
pub level_is : (I : Instance) (d : Duals) (i j q cost u demand : ℕ) (l : ℤ) → l ≡ pos (q * cost + u * demand) → q ≡ d.q → u ≡ u_at d i → demand ≡ (customer_at I j).demand → lane I (site_at I i).id (customer_at I j).id ≡ Some cost → l ≡ level_at I d i j
level_is I d i j q cost u demand l is scale price demands costs =
    let cost_is : unwrap_or (lane I (site_at I i).id (customer_at I j).id) 0 ≡ cost = ap (λ (o : Option ℕ). unwrap_or o 0) costs in
    cc

-- the lane of this cost is an amount
pub cost_small : (I : Instance) → IsValid I → (i j cost : ℕ) → lane I (site_at I i).id (customer_at I j).id ≡ Some cost → cost ≤ MAX_AMOUNT
cost_small I valid i j cost e =
    let small = cost_within (lane I (site_at I i).id (customer_at I j).id) MAX_AMOUNT (valid.lanes_small (site_at I i).id (customer_at I j).id) in
    omega (arith, small, ap (λ (o : Option ℕ). unwrap_or o 0) e)

-- what the code has of a scaled cost
pub scaled_bits : (z : ℤ) (q cost : ℕ) → z ≡ pos (q * cost) → q ≤ MAX_SCALE → cost ≤ MAX_AMOUNT → to_z w128 (of_z w128 z) ≡ pos (q * cost)
scaled_bits z q cost is scale small =
    let within : q * cost ≤ MAX_SCALE * MAX_AMOUNT = mul-le q cost MAX_SCALE MAX_AMOUNT scale small in
    kept z (MAX_SCALE * MAX_AMOUNT) (size_pos z (q * cost) (MAX_SCALE * MAX_AMOUNT) is within) (omega arith) ∙ is

-- the same by the scale of the duals
pub scaled_level : (d : Duals) (z : ℤ) (q cost : ℕ) → z ≡ pos (q * cost) → q ≡ d.q → d.q ≤ MAX_SCALE → cost ≤ MAX_AMOUNT → to_z w128 (of_z w128 z) ≡ pos (d.q * cost)
scaled_level d z q cost is same scale small = scaled_bits z q cost is (omega (arith, same, scale)) small ∙ ap (λ n. pos (n * cost)) same

pub scaled_size : (z : ℤ) (q cost : ℕ) → z ≡ pos (q * cost) → q ≤ MAX_SCALE → cost ≤ MAX_AMOUNT → unsigned_abs (to_z w128 (of_z w128 z)) ≤ MAX_VALUE
scaled_size z q cost is scale small =
    let within : q * cost ≤ MAX_SCALE * MAX_AMOUNT = mul-le q cost MAX_SCALE MAX_AMOUNT scale small in
    size_pos (to_z w128 (of_z w128 z)) (q * cost) MAX_VALUE (scaled_bits z q cost is scale small) (omega (arith, within))

module _ (I : Instance) (path : Path) (d : Duals) (valid : IsValid I) (fit : DualsFit I d) where
  -- what the code has of a value
  pub value_bits : (j : ℕ) → j < length I.customers → (z : ℤ) → z ≡ v_at d j → to_z w128 (of_z w128 z) ≡ v_at d j
  value_bits j b z is = ap (λ x. to_z w128 (of_z w128 x)) is ∙ kept (v_at d j) MAX_VALUE (value_small I path d valid fit j b) (omega arith)

  pub level_size : (i j : ℕ) → i < length I.sites → j < length I.customers → unsigned_abs (level_at I d i j) ≤ MAX_SCALE * MAX_AMOUNT + MAX_MULTIPLIER * MAX_AMOUNT
  level_size i j b c = level_small I path d valid fit i j (unwrap_or (lane I (site_at I i).id (customer_at I j).id) 0) b c (cost_within (lane I (site_at I i).id (customer_at I j).id) MAX_AMOUNT (valid.lanes_small (site_at I i).id (customer_at I j).id))

  pub slack_size : (i : ℕ) → i < length I.sites → unsigned_abs (slack_of I path d i) ≤ MAX_SLACK
  slack_size i b = omega (arith, left_small I path d valid fit i (length I.customers) b (omega arith))
