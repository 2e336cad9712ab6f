-- When a bound that is bent in a cost closes a box against what a plan costs, where the plan pays that cost and where it doesn't.
use Rattle.std.proofs.Common.{◌≡◌, ℕ, ◌+◌, ◌-◌, ◌*◌, ◌≤◌, zero, suc, ap, sym, ◌∙◌, inl, inr, arith, Some, ℤ, pos, ◌+ℤ◌, ◌-ℤ◌, ◌≤ℤ◌, ◌<ℤ◌}
use Rattle.std.specs.Prelude.{◌*ℤ◌}
use Rattle.std.proofs.lemmas.Int.{ints, clamps}
use Rattle.std.proofs.lemmas.Bool.{cases_lt}
use Rattle.std.proofs.lemmas.Nat.{mul-le}
use Rattle.location_terms.specs.Fit.{BoundCloses}
use Rattle.range_scan.proofs.Bent.{IsBent}

-- q times one less
pub scaled_less : (q T : ℕ) → (pos q *ℤ (pos T -ℤ pos 1)) +ℤ pos q ≡ pos (q * T)
scaled_less q zero = omega (arith, ints)
scaled_less q (suc t) =
    let less : (pos (suc t) -ℤ pos 1) ≡ pos t = omega (arith, ints) in
    ap (λ z. (pos q *ℤ z) +ℤ pos q) less ∙ omega (arith, ints)

module _ (q : ℕ) (b : ℕ → ℤ) (bent : IsBent q b) where
  rises : (x y : ℕ) → x ≤ y → b x ≤ℤ b y
  rises x y le = let e : x + (y - x) ≡ y = omega (arith, le) in omega (arith, ints, clamps, bent x (y - x), ap b e)

  slowly : (x : ℕ) → b x ≤ℤ (b 0 +ℤ pos (q * x))
  slowly x = let e : x + 0 ≡ x = omega arith in omega (arith, ints, clamps, bent x 0, ap b e)

  -- it is at least what it is further on, or has risen all the way
  above : (x y : ℕ) → x ≤ y → (c : ℤ) → c <ℤ b y → c <ℤ (b 0 +ℤ pos (q * x)) → c <ℤ b x
  above x y le c low risen = let e : x + (y - x) ≡ y = omega (arith, le) in omega (arith, ints, clamps, bent x (y - x), ap b e, low, risen)

  -- at scale 0 nothing moves
  still : q ≡ 0 → (x y : ℕ) → pos 1 ≤ℤ b x → pos 1 ≤ℤ b y
  still none x y h =
      let unmoved : q * x ≡ 0 * x = ap (λ n. n * x) none in
      omega (arith, ints, h, slowly x, unmoved, rises 0 y (omega arith))

  -- The plan pays the cost: at 0 it costs this, and so much more with each millionth.
  module _ (cost : ℕ) where
    -- what closes at a cost closes at a lesser one
    pub closes_below : (x y : ℕ) → x ≤ y → BoundCloses (b y) q (Some (cost + y)) → BoundCloses (b x) q (Some (cost + x))
    closes_below x y le (inl ray) = inl (ray.0, still ray.0 y x ray.1)
    closes_below x y le (inr scaled) =
        let low : (pos q *ℤ (pos (cost + y) -ℤ pos 1)) <ℤ b y = scaled.1 in
        let here : q * (cost + x) ≡ q * cost + q * x = omega arith in
        let there : q * (cost + y) ≡ q * cost + q * y = omega arith in
        let less : q * x ≤ q * y = mul-le q x q y (omega arith) le in
        inr (
          scaled.0,
          above x y le (pos q *ℤ (pos (cost + x) -ℤ pos 1))
              (omega (arith, ints, low, scaled_less q (cost + x), scaled_less q (cost + y), here, there, less))
              (omega (arith, ints, low, scaled_less q (cost + x), scaled_less q (cost + y), here, there, slowly y)),
        )

    -- what closes at a cost lacks no more at a greater one than it is greater by
    pub lacks_little : (x w y : ℕ) → x + w ≡ y → BoundCloses (b x) q (Some (cost + x)) → 1 ≤ q → pos (q * (cost + y)) <ℤ (b y +ℤ pos (q * (w + 1)))
    lacks_little x w y e (inl ray) scale = absurd (omega (arith, ray.0, scale))
    lacks_little x w y e (inr scaled) scale =
        let low : (pos q *ℤ (pos (cost + x) -ℤ pos 1)) <ℤ b x = scaled.1 in
        let here : q * (cost + x) ≡ q * cost + q * x = omega arith in
        let there : q * (cost + y) ≡ q * cost + (q * x + q * w) = ap (λ n. q * (cost + n)) (sym e) ∙ omega arith in
        let spare : q * (w + 1) ≡ q * w + q = omega arith in
        omega (arith, ints, low, scaled_less q (cost + x), here, there, spare, rises x y (omega (arith, e)))

    -- and what lacks no more than that closes, where it closes at some cost
    pub closes_where_little : (p x w y : ℕ) → x + w ≡ y → BoundCloses (b p) q (Some (cost + p)) → (1 ≤ q → pos (q * (cost + y)) <ℤ (b y +ℤ pos (q * (w + 1)))) → BoundCloses (b x) q (Some (cost + x))
    closes_where_little p x w y e (inl ray) lacks = inl (ray.0, still ray.0 p x ray.1)
    closes_where_little p x w y e (inr scaled) lacks =
        let low : (pos q *ℤ (pos (cost + p) -ℤ pos 1)) <ℤ b p = scaled.1 in
        let now : q * (cost + p) ≡ q * cost + q * p = omega arith in
        let here : q * (cost + x) ≡ q * cost + q * x = omega arith in
        let there : q * (cost + y) ≡ q * cost + (q * x + q * w) = ap (λ n. q * (cost + n)) (sym e) ∙ omega arith in
        let spare : q * (w + 1) ≡ q * w + q = omega arith in
        inr (
          scaled.0,
          above x y (omega (arith, e)) (pos q *ℤ (pos (cost + x) -ℤ pos 1))
              (omega (arith, ints, lacks scaled.0, scaled_less q (cost + x), here, there, spare))
              (omega (arith, ints, low, scaled_less q (cost + x), scaled_less q (cost + p), now, here, slowly p)),
        )

  -- The plan doesn't pay it, and costs this in any case.
  module _ (cost : ℕ) where
    pub closes_above : (x y : ℕ) → x ≤ y → BoundCloses (b x) q (Some cost) → BoundCloses (b y) q (Some cost)
    closes_above x y le (inl ray) = inl (ray.0, still ray.0 x y ray.1)
    closes_above x y le (inr scaled) =
        let low : (pos q *ℤ (pos cost -ℤ pos 1)) <ℤ b x = scaled.1 in
        inr (scaled.0, omega (arith, ints, low, rises x y le))

    pub lacks_at_0 : (x : ℕ) → BoundCloses (b x) q (Some cost) → 1 ≤ q → pos (q * cost) <ℤ (b 0 +ℤ pos (q * (x + 1)))
    lacks_at_0 x (inl ray) scale = absurd (omega (arith, ray.0, scale))
    lacks_at_0 x (inr scaled) scale =
        let low : (pos q *ℤ (pos cost -ℤ pos 1)) <ℤ b x = scaled.1 in
        let spare : q * (x + 1) ≡ q * x + q = omega arith in
        omega (arith, ints, low, scaled_less q cost, spare, slowly x)

    pub closes_from_0 : (p x : ℕ) → BoundCloses (b p) q (Some cost) → (1 ≤ q → pos (q * cost) <ℤ (b 0 +ℤ pos (q * (x + 1)))) → BoundCloses (b x) q (Some cost)
    closes_from_0 p x (inl ray) lacks = inl (ray.0, still ray.0 p x ray.1)
    closes_from_0 p x (inr scaled) lacks =
        let spare : q * (x + 1) ≡ q * x + q = omega arith in
        elim (cases_lt x p) [
          | inl before ↦
              inr (
                scaled.0,
                above x p (omega (arith, before)) (pos q *ℤ (pos cost -ℤ pos 1)) scaled.1
                    (omega (arith, ints, lacks scaled.0, scaled_less q cost, spare)),
              )
          | inr behind ↦ closes_above p x behind (inr scaled)
        ]
