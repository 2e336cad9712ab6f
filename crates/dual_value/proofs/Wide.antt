-- A product of a number in two parts, in units of 2^64.
use Rattle.std.proofs.Common.{◌≡◌, ℕ, ◌+◌, ◌*◌, ◌^◌, ap, arith}

pub product_of_parts : (size scale high low more less : ℕ) → 2 ^ 64 * high + low ≡ size → 2 ^ 64 * more + less ≡ low * scale → (high * scale + more) * 2 ^ 64 + less ≡ scale * size
product_of_parts size scale high low more less parts carried =
    let all : scale * (2 ^ 64 * high + low) ≡ scale * size = ap (λ x. scale * x) parts in
    omega arith
