-- The number of customers that so many sites can have lanes to.
use Rattle.std.proofs.Common.{◌≡◌, ℕ, ◌*◌, ◌/◌, ◌<◌, ◌≤◌, min, Result, Ok, Err, IfOk, arith, inl, inr}
use Rattle.std.proofs.Math.Nat.{mul-le-mul_left}
use Rattle.std.proofs.lemmas.Nat.{le-div}
use Rattle.std.proofs.lemmas.Bool.{cases_lt}
use Rattle.std.proofs.lemmas.Bool.Decides.{nat_tests}
use Rattle.fixed_cost.specs.Reading.{is_within}
use Rattle.fixed_cost.specs.declared.fault.FileFault.{FileFault}
use Rattle.location_terms.specs.Instance.{AreSizes}
use Rattle.table_words.specs.Tables.{is_customer_count}

-- a number of customers whose lanes are few is at most the quotient, and the other way round
few_below : (m n limit : ℕ) → 0 < m → n ≤ limit / m → m * n ≤ limit
few_below m n limit one below = omega (arith, mul-le-mul_left m below)

below_few : (m n limit : ℕ) → 0 < m → m * n ≤ limit → n ≤ limit / m
below_few m n limit one few = le-div n limit m one (omega arith)

-- the limit on the lanes is one on the number of customers
pub is_within-most : (m n : ℕ) → 1 ≤ m → is_within 1 (min (10000000 / m) 5000) n ≡ is_customer_count m n
is_within-most m n one =
    elim (cases_lt 10000000 (m * n)) [
      | inl many ↦
          let above : 10000000 / m < n = elim (cases_lt (10000000 / m) n) [ inl lt ↦ lt | inr le ↦ absurd (omega (arith, few_below m n 10000000 one le)) ] in
          grind (arith, nat_tests)
      | inr few ↦
          let below : n ≤ 10000000 / m = below_few m n 10000000 one few in
          grind (arith, nat_tests)
    ]

-- a number of customers up to the limit
pub within-most : (read : Result ℕ FileFault) (m most : ℕ) → 1 ≤ m → m ≤ 3000 → most ≡ min (10000000 / m) 5000 → IfOk read (λ n. 1 ≤ n) → IfOk read (λ n. n ≤ most) → IfOk read (AreSizes m)
within-most (Err f) m most one few is low high = tt
within-most (Ok n) m most one few is low high =
    let below : n ≤ 10000000 / m = omega arith in
    record {
      some_site = one;
      few_sites = few;
      some_customer = low;
      few_customers = omega arith;
      few_lanes = few_below m n 10000000 one below;
    }
