-- What a bound that closes a box shows of a cost that the bound is within, at the scale q.
use Rattle.std.proofs.Common.{◌≡◌, ℕ, ◌+◌, ◌*◌, ◌-◌, ◌/◌, ◌<◌, ◌≤◌, zero, suc, inl, inr, arith, ap, None, Some, ℤ, pos, negsuc, ◌-ℤ◌, ◌≤ℤ◌, ◌<ℤ◌}
use Rattle.std.proofs.lemmas.Int.{ints}
use Rattle.std.proofs.lemmas.Bool.{cases_lt}
use Rattle.std.proofs.lemmas.Nat.{mul-le, div_below}
use Rattle.std.proofs.Math.Nat.{min-le_left}
use Rattle.location_terms.specs.declared.limits.TheConstants.{MAX_COST}
use Rattle.location_terms.specs.Fit.{BoundCloses}
use Rattle.location_terms.specs.Tree.{low_end}

-- at scale 0 no cost has a bound of 1 or more within it
pub none_within_ray : (bound : ℤ) (q cost : ℕ) → q ≡ 0 → pos 1 ≤ℤ bound → bound ≤ℤ pos (q * cost) → ⊥
none_within_ray bound q cost unscaled above within = omega (arith, ints, ap (λ n. n * cost) unscaled)

-- without a target a box closes by scale 0 alone
pub none_within_untargeted : (bound : ℤ) (q cost : ℕ) → BoundCloses bound q None → bound ≤ℤ pos (q * cost) → ⊥
none_within_untargeted bound q cost (inl ray) within = none_within_ray bound q cost ray.0 ray.1 within
none_within_untargeted bound q cost (inr scaled) within = scaled.1

-- since costs are whole, one that is not below the bound is not below the target
pub target_within : (bound : ℤ) (q target cost : ℕ) → BoundCloses bound q (Some target) → bound ≤ℤ pos (q * cost) → target ≤ cost
target_within bound q target cost (inl ray) within = absurd (none_within_ray bound q cost ray.0 ray.1 within)
target_within bound q zero cost (inr scaled) within = omega arith
target_within bound q (suc t) cost (inr scaled) within =
    elim (cases_lt t cost) [
      | inl within_cost ↦ within_cost
      | inr not_above ↦ let product : q * cost ≤ q * t = mul-le q cost q t (omega arith) not_above in
          let one_less : (pos (suc t) -ℤ pos 1) ≡ pos t = omega (arith, ints) in
          let above : pos (q * t) <ℤ bound = rw one_less at scaled.1 in
          absurd (omega (arith, ints))
    ]

-- the low end is the bound over the scale, rounded up, and a cost is whole
pub low_end_within : (bound : ℤ) (q cost : ℕ) → 1 ≤ q → bound ≤ℤ pos (q * cost) → low_end bound q ≤ cost
low_end_within (pos b) q cost scaled within =
    let low : (b + (q - 1)) / q < cost + 1 = div_below (b + (q - 1)) q (cost + 1) scaled (omega (arith, ints)) in
    omega (arith, min-le_left ((b + (q - 1)) / q) MAX_COST)
low_end_within (negsuc b) q cost scaled within = omega arith
