-- What closes, as bounds rise and plans get cheaper, and what a made leaf is by its form.
use Rattle.std.proofs.Common.{◌≡◌, ℕ, suc, ◌≤◌, refl, sym, ap, inl, inr, subst, arith, Option, Some, None, ℤ, pos, negsuc, ◌-ℤ◌, ◌*ℤ◌, ◌≤ℤ◌, ◌<ℤ◌}
use Rattle.std.specs.Prelude.{◌⊎◌}
use Rattle.std.proofs.lemmas.Int.{by_lt_z, ints}
use Rattle.std.proofs.lemmas.Nat.{mul-le}
use Rattle.location_terms.specs.declared.form.LeafForm.{LeafForm}
use Rattle.location_terms.specs.declared.form.LeafForm.TheVariants.{Prices, Whole}
use Rattle.location_terms.specs.Instance.{Instance}
use Rattle.location_terms.specs.Plan.{Plan, cost_of}
use Rattle.location_terms.specs.Box.{Path}
use Rattle.location_terms.specs.Bound.{Duals, bound_of}
use Rattle.location_terms.specs.Fit.{DualsFit, BoundCloses}
use Rattle.location_terms.specs.Leaf.{bound_in, leaf_bound, PricesSuit, KnapsacksSuit, LeafFits, LeafCloses}
use Rattle.dual_value.specs.Scales.{IsAtLeast}
use Rattle.dual_value.proofs.Sizes.{le_times}
use Rattle.plan_search.specs.InBox.{IsNoWorse}
use Rattle.tree_search.specs.Made.{IsMadeByPrices, IsMadeIn, IsMadeLeaf}
use Rattle.tree_search.specs.Answer.{cost_in}
use Rattle.tree_search.proofs.Comparing.{exchanged}

-- Products with a scale.

more_by_one : (k : ℕ) (a b : ℤ) → 1 ≤ k → a <ℤ b → (pos k *ℤ a) <ℤ (pos k *ℤ b)
more_by_one k (pos m) (pos n) some less = let product = mul-le k (suc m) k n (omega arith) (omega (arith, ints, less)) in omega (arith, ints, product)
more_by_one k (negsuc m) (pos n) some less = omega (arith, ints)
more_by_one k (negsuc m) (negsuc n) some less = let product = mul-le k (suc (suc n)) k (suc m) (omega arith) (omega (arith, ints, less)) in omega (arith, ints, product)
more_by_one k (pos m) (negsuc n) some less = absurd (omega (arith, ints, less))

scaled_down : (k : ℕ) (a b : ℤ) → (pos k *ℤ a) <ℤ (pos k *ℤ b) → a <ℤ b
scaled_down k a b less = by_lt_z a b (λ below. below) (λ above. absurd (omega (arith, ints, less, le_times k b a above)))

-- Closing.

-- a bound that is at least another one, each over its scale, closes where that one does
pub closes_at_least : (b c : ℤ) (q r : ℕ) (target : Option ℕ) → 1 ≤ q → 1 ≤ r → IsAtLeast b q c r → BoundCloses c r target → BoundCloses b q target
closes_at_least b c q r target some more least (inl ray) = absurd (omega (arith, ray.0, more))
closes_at_least b c q r None some more least (inr scaled) = absurd scaled.1
closes_at_least b c q r (Some T) some more least (inr scaled) =
    let product : (pos q *ℤ (pos r *ℤ (pos T -ℤ pos 1))) <ℤ (pos q *ℤ c) = more_by_one q _ _ some scaled.1 in
    inr (some, scaled_down r (pos q *ℤ (pos T -ℤ pos 1)) b (omega (arith, ints, product, least, exchanged q r (pos T -ℤ pos 1))))

-- what closes against a cost closes against a lower one
pub closes_lower : (b : ℤ) (q : ℕ) (T C : ℕ) → C ≤ T → BoundCloses b q (Some T) → BoundCloses b q (Some C)
closes_lower b q T C less (inl ray) = inl ray
closes_lower b q T C less (inr scaled) =
    let product : (pos q *ℤ (pos C -ℤ pos 1)) ≤ℤ (pos q *ℤ (pos T -ℤ pos 1)) = le_times q _ _ (omega (arith, ints, less)) in
    inr (scaled.0, omega (arith, ints, product, scaled.1))

closes_any : (b : ℤ) (q : ℕ) (target : Option ℕ) → BoundCloses b q None → BoundCloses b q target
closes_any b q target (inl ray) = inl ray
closes_any b q target (inr scaled) = absurd scaled.1

-- what closes against a plan's cost closes against that of a plan that is no worse
pub closes_no_worse : (I : Instance) (b : ℤ) (q : ℕ) (new old : Option Plan) → IsNoWorse I new old → BoundCloses b q (cost_in I old) → BoundCloses b q (cost_in I new)
closes_no_worse I b q new None h closes = closes_any b q (cost_in I new) closes
closes_no_worse I b q None (Some P) h closes = absurd h
closes_no_worse I b q (Some Q) (Some P) h closes = closes_lower b q (cost_of I P) (cost_of I Q) h closes

-- Made leaves.

module _ (I : Instance) (path : Path) (d : Duals) where
  -- by prices both bounds are one
  pub by_prices : d.form ≡ Prices → leaf_bound I path d ≡ bound_of I path d
  by_prices is = ap (λ form. bound_in form I path d) is

  pub fit_by_prices : d.form ≡ Prices → DualsFit I d → LeafFits I d
  fit_by_prices is fit = record {
    numbers = fit;
    prices = subst (λ form. PricesSuit form d.u) (sym is) tt;
    knapsacks = subst (λ form. KnapsacksSuit form I) (sym is) tt;
  }

  -- it is by prices, or it closes
  pub of_made : (old_path : Path) (old : Duals) (cost : Option ℕ) → IsMadeLeaf I cost old_path old path d → ((d.form ≡ Prices) × IsMadeByPrices I old_path old path d) ⊎ ((d.form ≡ Whole) × LeafCloses I path d cost)
  of_made old_path old cost made = by d.form refl made
    where
      by : (form : LeafForm) → d.form ≡ form → IsMadeIn form I cost old_path old path d → ((d.form ≡ Prices) × IsMadeByPrices I old_path old path d) ⊎ ((d.form ≡ Whole) × LeafCloses I path d cost)
      by Prices is has = inl (is, has)
      by Whole is has = inr (is, has)
