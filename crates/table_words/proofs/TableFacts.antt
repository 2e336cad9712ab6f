-- What is known of sizes and of lanes that were read.
use Rattle.std.proofs.Common.{◌≡◌, ℕ, Bool, true, All, List, Option, Some, IsSome, Ok, refl, ap, subst, arith}
use Rattle.std.proofs.lemmas.Bool.Decides.{nat_tests}
use Rattle.location_terms.specs.declared.limits.TheConstants.{MAX_SITES}
use Rattle.location_terms.specs.Instance.{AreSizes}
use Rattle.fixed_cost.specs.declared.fault.FileKind.TheVariants.{BadSize}
use Rattle.fixed_cost.specs.Reading.{Rest, amount_at, size_at, is_within}
use Rattle.fixed_cost.proofs.ReadFacts.{bind-ok, done-same, amount_at-small, size_at-tested, AlwaysGives, many_at-each}
use Rattle.instance_store.specs.Small.{IsSmall}
use Rattle.instance_store.specs.Numbered.{IsRow}
use Rattle.table_words.specs.Tables.{is_customer_count, sizes_at, lane_at, lanes_at}

tested : (m n : ℕ) → is_within 1 MAX_SITES m ≡ true → is_customer_count m n ≡ true → AreSizes m n
tested m n sites customers = record {
  some_site = grind (arith, nat_tests);
  few_sites = grind (arith, nat_tests);
  some_customer = grind (arith, nat_tests);
  few_customers = grind (arith, nat_tests);
  few_lanes = grind (arith, nat_tests);
}

-- sizes that were read are within the limits
pub sizes_give : (r : Rest) (m n : ℕ) (after : Rest) → sizes_at r ≡ Ok ((m, n), after) → AreSizes m n
unfolding sizes_at
sizes_give r m n after e =
    let sites = bind-ok (size_at BadSize (is_within 1 MAX_SITES) r) _ ((m, n), after) e in
    let customers = bind-ok (size_at BadSize (is_customer_count sites.0.0) sites.0.1) _ ((m, n), after) sites.2 in
    let same : (sites.0.0, customers.0.0) ≡ (m, n) = ap (λ (p : (ℕ × ℕ) × Rest). p.0) (done-same ((sites.0.0, customers.0.0), customers.0.1) ((m, n), after) customers.2) in
    subst (λ (p : ℕ × ℕ). AreSizes p.0 p.1) same (tested sites.0.0 customers.0.0 (size_at-tested BadSize (is_within 1 MAX_SITES) r sites.0.0 sites.0.1 sites.1) (size_at-tested BadSize (is_customer_count sites.0.0) sites.0.1 customers.0.0 customers.0.1 customers.1))

-- a lane that was read is there, and its cost is within the limit
record IsLane (x : Option ℕ) : Type 0 where
  pub there : IsSome x
  pub small : IsSmall x

lane_gives : AlwaysGives (λ (_ : ℕ). IsLane) (λ _. lane_at)
unfolding lane_at
lane_gives = record { gives = λ k r x after e. by r x after e }
  where
    by : (r : Rest) (x : Option ℕ) (after : Rest) → lane_at r ≡ Ok (x, after) → IsLane x
    by r x after e =
        let cost = bind-ok (amount_at r) _ (x, after) e in
        let same : Some cost.0.0 ≡ x = ap (λ (p : Option ℕ × Rest). p.0) (done-same (Some cost.0.0, cost.0.1) (x, after) cost.2) in
        subst IsLane same (record { there = refl; small = amount_at-small r cost.0.0 cost.0.1 cost.1 })

-- a row of lanes that was read is whole and within the limits, and each lane is there
pub lanes_give : (n : ℕ) (r : Rest) (lanes : List (Option ℕ)) (after : Rest) → lanes_at n r ≡ Ok (lanes, after) → IsRow n lanes × All IsSome lanes
lanes_give n r lanes after e =
    let each = many_at-each IsLane (λ _. lane_at) lane_gives n 0 r lanes after e in
    (record { full = each.0; small = λ k d below. (each.1 k d below).small }, λ k d below. (each.1 k d below).there)
