-- What a bound lacks, as a quotient, and what leaves lack one after another.
use Rattle.std.proofs.Common.{◌≡◌, ℕ, ◌+◌, ◌*◌, ◌/◌, ◌%◌, ◌<◌, ◌≤◌, refl, ap, sym, ◌∙◌, arith, div-add-mod', mod-lt, false, ◌^◌, ℤ, pos, negsuc, ◌+ℤ◌, ◌-ℤ◌, ◌<ℤ◌}
use Rattle.std.specs.Prelude.{◌↔◌, ◌*ℤ◌, int_lt}
use Rattle.std.specs.Int.RustNames.{unsigned_abs}
use mir.Syntax.{w128}
use mir.Val.{to_z, of_z}
use Rattle.std.proofs.lemmas.Bool.{false≢true}
use Rattle.dual_value.specs.declared.bounds.TheConstants.{MAX_BOUND}
use Rattle.dual_value.proofs.Sizes.{kept, difference_kept}
use Rattle.std.proofs.lemmas.Int.{ints}
use Rattle.std.proofs.lemmas.Nat.{mul-le, div_below}
use Rattle.location_terms.specs.Instance.{Instance}
use Rattle.location_terms.specs.Box.{Path}
use Rattle.location_terms.specs.Bound.{Duals}
use Rattle.range_scan.specs.Short.{LacksAtMost}

-- a quotient is at most a number where the whole is less than one more of its parts
pub quotient_within : (n q w : ℕ) → 1 ≤ q → (n / q ≤ w) ↔ (n < q * (w + 1))
quotient_within n q w scaled = (forth, back)
  where
    forth : n / q ≤ w → n < q * (w + 1)
    forth h =
        let parts : n / q * q + n % q ≡ n = div-add-mod' n q in
        let rest : n % q < q = mod-lt n scaled in
        let most : n / q * q ≤ w * q = mul-le (n / q) q w q h (omega arith) in
        let whole : q * (w + 1) ≡ w * q + q = omega arith in
        omega (arith, parts, rest, most, whole)

    back : n < q * (w + 1) → n / q ≤ w
    back h =
        let within : n < (w + 1) * q = omega (arith, h) in
        omega (arith, div_below n q (w + 1) scaled within)

-- what is left of a cost above a bound, over the scale
pub lacks_quotient : (q target n : ℕ) (bound : ℤ) → 1 ≤ q → pos n ≡ (pos (q * target) -ℤ bound) → (w : ℕ) → (n / q ≤ w) ↔ (pos (q * target) <ℤ (bound +ℤ pos (q * (w + 1))))
lacks_quotient q target n bound scaled is w =
    let both = quotient_within n q w scaled in
    (λ h. let less : n < q * (w + 1) = both.0 h in omega (arith, ints, is, less), λ h. both.1 (omega (arith, ints, is, h)))

-- the scaled cost less the bound, as 128 bits have it
pub gap_kept : (x y bound : ℤ) (q target : ℕ) → x ≡ pos q → y ≡ pos target → q < 2 ^ 32 → target < 2 ^ 64 → unsigned_abs bound ≤ MAX_BOUND
    → to_z w128 (of_z w128 (to_z w128 (of_z w128 (to_z w128 (of_z w128 x) *ℤ to_z w128 (of_z w128 y))) -ℤ to_z w128 (of_z w128 bound))) ≡ (pos (q * target) -ℤ bound)
gap_kept x y bound q target x_is y_is q_small target_small small =
    let first : to_z w128 (of_z w128 x) ≡ pos q = ap (λ z. to_z w128 (of_z w128 z)) x_is ∙ kept (pos q) (2 ^ 32) (omega (arith, q_small)) (omega arith) in
    let second : to_z w128 (of_z w128 y) ≡ pos target = ap (λ z. to_z w128 (of_z w128 z)) y_is ∙ kept (pos target) (2 ^ 64) (omega (arith, target_small)) (omega arith) in
    let product : (to_z w128 (of_z w128 x) *ℤ to_z w128 (of_z w128 y)) ≡ pos (q * target) = λ k. first k *ℤ second k in
    let few : q * target ≤ 2 ^ 32 * 2 ^ 64 = mul-le q target (2 ^ 32) (2 ^ 64) (omega (arith, q_small)) (omega (arith, target_small)) in
    ap (λ p. to_z w128 (of_z w128 (to_z w128 (of_z w128 p) -ℤ to_z w128 (of_z w128 bound)))) product
    ∙ difference_kept (pos (q * target)) bound (2 ^ 32 * 2 ^ 64) MAX_BOUND few small (omega arith)

pub of_abs : (z : ℤ) → int_lt z (pos 0) ≡ false → pos (unsigned_abs z) ≡ z
of_abs (pos n) e = refl
of_abs (negsuc n) e = absurd (false≢true (sym e))

-- a leaf of scale 0 lacks nothing
pub lacks_nothing : (I : Instance) (target most : ℕ) (path : Path) (d : Duals) → d.q ≡ 0 → (w : ℕ) → (most ≤ w) ↔ ((most ≤ w) × LacksAtMost I target w (path, d))
lacks_nothing I target most path d unscaled w = (λ h. (h, λ scaled. absurd (omega (arith, unscaled, scaled))), λ h. h.0)
