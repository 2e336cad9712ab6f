-- The unit of the demands, by the greatest common divisors of those so far and one demand more.
use Rattle.std.proofs.Common.{◌≡◌, ℕ, zero, suc, ◌+◌, ◌<◌, ◌≤◌, ◌%◌, inl, inr, refl, sym, subst, ◌∙◌, arith, Bool, true, false, List, [], ◌∷◌, length, get_or}
use Rattle.std.specs.Prelude.{All, sum_by, ◌==◌}
use Prim.Native.Nat.{◌∣◌}
use Rattle.std.specs.Int.{IsGcd}
use Rattle.std.specs.List.{list_all}
use Rattle.std.proofs.lemmas.Bool.{eqb-true, eq-eqb, cond-true, cond-false}
use Rattle.std.proofs.lemmas.Nat.Gcd.{dvd-zero, dvd_trans, le_of_dvd, dvd_of_mod-eq-zero, mod-eq-zero_of_dvd}
use Rattle.std.proofs.lemmas.List.Sums.{sum_by-cons, AllPass-from_list_all, list_all-from_AllPass}
use Rattle.std.proofs.lemmas.List.Elements.{All-head, All-tail, All-from_get_or}
use Rattle.std.proofs.Math.Nat.{dvd-add}
use Rattle.location_terms.specs.Instance.{Instance, Customer, customer_at}
use Rattle.location_terms.specs.Knapsack.{whole_demand, divides_demands, greatest_up_to, demand_unit, holds_few_units, has_small_knapsacks}
use Rattle.binary_knapsack.proofs.Most.{le_or_above}
use Rattle.binary_knapsack.proofs.Kept.{bool_cases}

-- the number divides each of the first k demands, and each number that does divides it
pub record IsUnitTo (I : Instance) (k unit : ℕ) : Type 0 where
  pub divides : (j : ℕ) → j < k → unit ∣ (customer_at I j).demand
  pub greatest : (n : ℕ) → ((j : ℕ) → j < k → n ∣ (customer_at I j).demand) → n ∣ unit

pub unit_of_none : (I : Instance) → IsUnitTo I 0 0
unit_of_none I = record { divides = λ j h. absurd (omega (arith, h)); greatest = λ n all. dvd-zero n }

-- one demand more
pub unit_of_more : (I : Instance) (k unit more : ℕ) → IsUnitTo I k unit → IsGcd unit (customer_at I k).demand more → IsUnitTo I (k + 1) more
unit_of_more I k unit more before both = record {
  divides = λ j h. elim (le_or_above k j) [
    | inl at ↦ (let here : k ≡ j = omega (arith, at, h) in subst (λ (p : ℕ). more ∣ (customer_at I p).demand) here both.1)
    | inr below ↦ dvd_trans more both.0 (before.divides j below)
  ];
  greatest = λ n all. both.2 n (before.greatest n (λ j h. all j (omega (arith, h)))) (all k (omega arith));
}

-- what divides each demand divides their sum
divides_sum : (n : ℕ) (custs : List Customer) → All (λ (c : Customer). n ∣ c.demand) custs → n ∣ sum_by (λ (c : Customer). c.demand) custs
divides_sum n [] all = dvd-zero n
divides_sum n (c ∷ custs) all =
    let rest = divides_sum n custs (All-tail (λ (x : Customer). n ∣ x.demand) c custs all) in
    rw (sum_by-cons (λ (x : Customer). x.demand) c custs) (dvd-add n (All-head (λ (x : Customer). n ∣ x.demand) c custs all) rest)

-- the greatest number that passes, where it is known
greatest_is : (test : ℕ → Bool) (g n : ℕ) → 1 ≤ g → g ≤ n → test g ≡ true → ((m : ℕ) → g < m → test m ≡ false) → greatest_up_to test n ≡ g
unfolding greatest_up_to
greatest_is test g zero some few passes fails = absurd (omega (arith, some, few))
greatest_is test g (suc n) some few passes fails =
    elim (le_or_above (suc n) g) [
      | inl at ↦ (let here : suc n ≡ g = omega (arith, at, few) in rw (here, passes) refl)
      | inr below ↦ rw (fails (suc n) below) (greatest_is test g n some (omega (arith, below)) passes fails)
    ]

module _ (I : Instance) (unit : ℕ) (is : IsUnitTo I (length I.customers) unit) (some : 1 ≤ whole_demand I) where
  all_divided : All (λ (c : Customer). unit ∣ c.demand) I.customers
  all_divided = All-from_get_or (λ (c : Customer). unit ∣ c.demand) I.customers (record { id = 0; demand = 0 }) is.divides

  divides_whole : unit ∣ whole_demand I
  divides_whole = divides_sum unit I.customers all_divided

  unit_passes : divides_demands I unit ≡ true
  unit_passes = list_all-from_AllPass (λ (c : Customer). c.demand % unit == 0) I.customers (λ k d h. eq-eqb ((get_or I.customers k d).demand % unit) 0 (mod-eq-zero_of_dvd unit (all_divided k d h)))

  divides_unit : (n : ℕ) → divides_demands I n ≡ true → n ∣ unit
  divides_unit n h =
      let passed = AllPass-from_list_all (λ (c : Customer). c.demand % n == 0) I.customers h in
      let none : Customer = record { id = 0; demand = 0 } in
      is.greatest n (λ j b. dvd_of_mod-eq-zero n (eqb-true ((get_or I.customers j none).demand % n) 0 (passed j none b)))

  pub unit_positive : 1 ≤ unit
  unit_positive = elim (le_or_above 1 unit) [
    | inl h ↦ h
    | inr h ↦
        let none : unit ≡ 0 = omega (arith, h) in
        let divided : 0 ∣ whole_demand I = rw none at divides_whole in
        let zero_mod : whole_demand I % 0 ≡ 0 = mod-eq-zero_of_dvd 0 divided in
        absurd (omega (arith, zero_mod, some))
  ]

  greater_fail : (n : ℕ) → unit < n → divides_demands I n ≡ false
  greater_fail n h = elim (bool_cases (divides_demands I n)) [
    | inl passes ↦ (let few = le_of_dvd (omega (arith, unit_positive)) (divides_unit n passes) in absurd (omega (arith, few, h)))
    | inr fails ↦ fails
  ]

  pub unit_is : unit ≡ demand_unit I
  unit_is = sym (greatest_is (divides_demands I) unit (whole_demand I) unit_positive (le_of_dvd (omega (arith, some)) divides_whole) unit_passes greater_fail)

-- whether knapsacks are small where nobody demands anything, and where somebody does
pub small_where_none : (I : Instance) (whole : ℕ) → whole ≡ whole_demand I → whole ≡ 0 → true ≡ has_small_knapsacks I
unfolding has_small_knapsacks
small_where_none I whole is none = sym (cond-true (whole_demand I == 0) true (list_all (λ s. holds_few_units I s.cap) I.sites) (eq-eqb (whole_demand I) 0 (sym is ∙ none)))

pub small_where_some : (I : Instance) (whole : ℕ) (few : Bool) → whole ≡ whole_demand I → 1 ≤ whole → few ≡ list_all (λ s. holds_few_units I s.cap) I.sites → few ≡ has_small_knapsacks I
unfolding has_small_knapsacks
small_where_some I whole few is some found =
    elim (bool_cases (whole_demand I == 0)) [
      | inl none ↦ (let zero = eqb-true (whole_demand I) 0 none in absurd (omega (arith, is, some, zero)))
      | inr there ↦ found ∙ sym (cond-false (whole_demand I == 0) true (list_all (λ s. holds_few_units I s.cap) I.sites) there)
    ]
