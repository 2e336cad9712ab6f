-- A made leaf, in either form.
use Rattle.std.proofs.Common.{◌≡◌, ℕ, ◌≤◌, refl, sym, ap, subst, inl, inr, arith, Option, Some, None, zero, suc, ℤ, pos, ◌-ℤ◌, ◌*ℤ◌, ◌≤ℤ◌, ◌<ℤ◌}
use Rattle.std.specs.Prelude.{◌⊎◌, IsSome}
use Rattle.std.proofs.lemmas.Int.{ints}
use Rattle.location_terms.specs.declared.form.LeafForm.{LeafForm}
use Rattle.location_terms.specs.declared.form.LeafForm.TheVariants.{Prices, Whole}
use Rattle.location_terms.specs.Instance.{Instance}
use Rattle.location_terms.specs.Plan.{Plan}
use Rattle.location_terms.specs.Box.{Path}
use Rattle.location_terms.specs.Bound.{Duals, bound_of}
use Rattle.location_terms.specs.Fit.{DualsFit, BoundCloses}
use Rattle.location_terms.specs.Leaf.{bound_in, leaf_bound, PricesSuit, KnapsacksSuit, LeafFits, LeafCloses}
use Rattle.plan_search.specs.InBox.{IsNoWorse}
use Rattle.tree_search.specs.Made.{IsMadeByPrices, IsMadeIn, IsMadeLeaf}
use Rattle.tree_search.specs.Answer.{cost_in}
use Rattle.tree_search.proofs.Closer.{closes_no_worse}

-- What a closed bound says.

pub ray_bound : (bound : ℤ) (q : ℕ) (target : Option ℕ) → q ≡ 0 → BoundCloses bound q target → pos 1 ≤ℤ bound
ray_bound bound q target none (inl ray) = ray.1
ray_bound bound q target none (inr scaled) = absurd (omega (arith, none, scaled.0))

pub above_scaled : (bound : ℤ) (q : ℕ) (target : Option ℕ) → 1 ≤ q → BoundCloses bound q target → (pos 0 -ℤ pos q) <ℤ bound
above_scaled bound q target some (inl ray) = absurd (omega (arith, some, ray.0))
above_scaled bound q None some (inr scaled) = absurd scaled.1
above_scaled bound q (Some zero) some (inr scaled) =
    let least : (pos q *ℤ (pos 0 -ℤ pos 1)) ≡ (pos 0 -ℤ pos q) = omega (arith, ints) in
    omega (arith, ints, scaled.1, least)
above_scaled bound q (Some (suc t)) some (inr scaled) =
    let one_less : (pos (suc t) -ℤ pos 1) ≡ pos t = omega (arith, ints) in
    let above : (pos q *ℤ pos t) <ℤ bound = subst (λ x. (pos q *ℤ x) <ℤ bound) one_less scaled.1 in
    omega (arith, ints, above, some)

pub some_target : (I : Instance) (bound : ℤ) (q : ℕ) (plan : Option Plan) → 1 ≤ q → BoundCloses bound q (cost_in I plan) → IsSome plan
some_target I bound q plan some (inl ray) = absurd (omega (arith, some, ray.0))
some_target I bound q None some (inr scaled) = absurd scaled.1
some_target I bound q (Some P) some (inr scaled) = refl

module _ (I : Instance) (path : Path) (d : Duals) where
  -- by prices both bounds are one
  pub by_prices : d.form ≡ Prices → leaf_bound I path d ≡ bound_of I path d
  by_prices is = ap (λ form. bound_in form I path d) is

  pub fit_by_prices : d.form ≡ Prices → DualsFit I d → LeafFits I d
  fit_by_prices is fit = record {
    numbers = fit;
    prices = subst (λ form. PricesSuit form d.u) (sym is) tt;
    knapsacks = subst (λ form. KnapsacksSuit form I) (sym is) tt;
  }

  module _ (old_path : Path) (old : Duals) where
    pub made_by_prices : (cost : Option ℕ) → d.form ≡ Prices → IsMadeByPrices I old_path old path d → IsMadeLeaf I cost old_path old path d
    made_by_prices cost is made = subst (λ form. IsMadeIn form I cost old_path old path d) (sym is) made

    made_whole : (cost : Option ℕ) → d.form ≡ Whole → LeafCloses I path d cost → IsMadeLeaf I cost old_path old path d
    made_whole cost is closes = subst (λ form. IsMadeIn form I cost old_path old path d) (sym is) closes

    -- what closes by whole knapsacks is made, and so is what closes at scale 0, in either form
    pub made_closing : (cost : Option ℕ) → (d.form ≡ Whole) ⊎ (d.q ≡ 0) → LeafCloses I path d cost → IsMadeLeaf I cost old_path old path d
    made_closing cost (inl is) closes = made_whole cost is closes
    made_closing cost (inr none) closes = by d.form refl
      where
        by : (form : LeafForm) → d.form ≡ form → IsMadeIn d.form I cost old_path old path d
        by Prices is = made_by_prices cost is (record {
          fit = closes.fit.numbers;
          ray = λ _. subst (λ x. pos 1 ≤ℤ x) (by_prices is) (ray_bound (leaf_bound I path d) d.q cost none closes.closed);
          scaled = λ some. absurd (omega (arith, none, some));
        })
        by Whole is = made_whole cost is closes

    -- it is by prices, or it closes
    pub of_made : (cost : Option ℕ) → IsMadeLeaf I cost old_path old path d → ((d.form ≡ Prices) × IsMadeByPrices I old_path old path d) ⊎ ((d.form ≡ Whole) × LeafCloses I path d cost)
    of_made cost made = by d.form refl made
      where
        by : (form : LeafForm) → d.form ≡ form → IsMadeIn form I cost old_path old path d → ((d.form ≡ Prices) × IsMadeByPrices I old_path old path d) ⊎ ((d.form ≡ Whole) × LeafCloses I path d cost)
        by Prices is has = inl (is, has)
        by Whole is has = inr (is, has)

    pub made_leaf_fits : (cost : Option ℕ) → IsMadeLeaf I cost old_path old path d → LeafFits I d
    made_leaf_fits cost made = elim (of_made cost made) [
      | inl priced ↦ fit_by_prices priced.0 priced.1.fit
      | inr whole ↦ whole.1.fit
    ]

    pub made_ray : (cost : Option ℕ) → IsMadeLeaf I cost old_path old path d → d.q ≡ 0 → pos 1 ≤ℤ leaf_bound I path d
    made_ray cost made none = elim (of_made cost made) [
      | inl priced ↦ subst (λ x. pos 1 ≤ℤ x) (sym (by_prices priced.0)) (priced.1.ray none)
      | inr whole ↦ ray_bound (leaf_bound I path d) d.q cost none whole.1.closed
    ]

    -- as the incumbent improves
    pub made_still : (new old_plan : Option Plan) → IsNoWorse I new old_plan → IsMadeLeaf I (cost_in I old_plan) old_path old path d → IsMadeLeaf I (cost_in I new) old_path old path d
    made_still new old_plan later made = elim (of_made (cost_in I old_plan) made) [
      | inl priced ↦ made_by_prices (cost_in I new) priced.0 priced.1
      | inr whole ↦ made_closing (cost_in I new) (inl whole.0) (record { fit = whole.1.fit; closed = closes_no_worse I (leaf_bound I path d) d.q new old_plan later whole.1.closed })
    ]
