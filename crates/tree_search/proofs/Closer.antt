-- What closes, and which plans are sought, as bounds rise and incumbents improve.
use Rattle.std.proofs.Common.{◌≡◌, ℕ, suc, ◌≤◌, inl, inr, subst, arith, Option, Some, None, ℤ, pos, negsuc, ◌-ℤ◌, ◌*ℤ◌, ◌≤ℤ◌, ◌<ℤ◌}
use Rattle.std.specs.Prelude.{IsSomeAnd}
use Rattle.std.proofs.lemmas.Int.{by_lt_z, ints}
use Rattle.std.proofs.lemmas.Nat.{mul-le}
use Rattle.location_terms.specs.Instance.{Instance}
use Rattle.location_terms.specs.Plan.{Plan, cost_of}
use Rattle.location_terms.specs.Box.{Path}
use Rattle.location_terms.specs.Bound.{Duals}
use Rattle.location_terms.specs.Fit.{BoundCloses}
use Rattle.location_terms.specs.Leaf.{leaf_bound}
use Rattle.dual_value.specs.Scales.{IsAtLeast}
use Rattle.plan_search.specs.InBox.{IsNoWorse}
use Rattle.tree_search.specs.Answer.{cost_in}
use Rattle.tree_search.specs.Working.{ClosesWith, IsSoughtAt}
use Rattle.dual_value.proofs.Sizes.{le_times}
use Rattle.tree_search.proofs.Comparing.{exchanged}

-- Products with a scale.

more_by_one : (k : ℕ) (a b : ℤ) → 1 ≤ k → a <ℤ b → (pos k *ℤ a) <ℤ (pos k *ℤ b)
more_by_one k (pos m) (pos n) some less = let product = mul-le k (suc m) k n (omega arith) (omega (arith, ints, less)) in omega (arith, ints, product)
more_by_one k (negsuc m) (pos n) some less = omega (arith, ints)
more_by_one k (negsuc m) (negsuc n) some less = let product = mul-le k (suc (suc n)) k (suc m) (omega arith) (omega (arith, ints, less)) in omega (arith, ints, product)
more_by_one k (pos m) (negsuc n) some less = absurd (omega (arith, ints, less))

scaled_down : (k : ℕ) (a b : ℤ) → (pos k *ℤ a) <ℤ (pos k *ℤ b) → a <ℤ b
scaled_down k a b less = by_lt_z a b (λ below. below) (λ above. absurd (omega (arith, ints, less, le_times k b a above)))

-- Closing.

pub closes_at_least : (b c : ℤ) (q r : ℕ) (target : Option ℕ) → 1 ≤ q → 1 ≤ r → IsAtLeast b q c r → BoundCloses c r target → BoundCloses b q target
closes_at_least b c q r target some more least (inl ray) = absurd (omega (arith, ray.0, more))
closes_at_least b c q r None some more least (inr scaled) = absurd scaled.1
closes_at_least b c q r (Some T) some more least (inr scaled) =
    let product : (pos q *ℤ (pos r *ℤ (pos T -ℤ pos 1))) <ℤ (pos q *ℤ c) = more_by_one q _ _ some scaled.1 in
    inr (some, scaled_down r (pos q *ℤ (pos T -ℤ pos 1)) b (omega (arith, ints, product, least, exchanged q r (pos T -ℤ pos 1))))

closes_lower : (b : ℤ) (q : ℕ) (T C : ℕ) → C ≤ T → BoundCloses b q (Some T) → BoundCloses b q (Some C)
closes_lower b q T C less (inl ray) = inl ray
closes_lower b q T C less (inr scaled) =
    let product : (pos q *ℤ (pos C -ℤ pos 1)) ≤ℤ (pos q *ℤ (pos T -ℤ pos 1)) = le_times q _ _ (omega (arith, ints, less)) in
    inr (scaled.0, omega (arith, ints, product, scaled.1))

closes_any : (b : ℤ) (q : ℕ) (target : Option ℕ) → BoundCloses b q None → BoundCloses b q target
closes_any b q target (inl ray) = inl ray
closes_any b q target (inr scaled) = absurd scaled.1

module _ (I : Instance) where
  pub no_worse_same : (plan : Option Plan) → IsNoWorse I plan plan
  no_worse_same None = tt
  no_worse_same (Some P) = omega arith

  pub no_worse_again : (new mid old : Option Plan) → IsNoWorse I new mid → IsNoWorse I mid old → IsNoWorse I new old
  no_worse_again new mid None h k = tt
  no_worse_again new None (Some P) h k = absurd k
  no_worse_again None (Some Q) (Some P) h k = absurd h
  no_worse_again (Some R) (Some Q) (Some P) h k = omega (arith, h, k)

  -- what closes against a plan's cost closes against that of a plan that is no worse
  pub closes_no_worse : (b : ℤ) (q : ℕ) (new old : Option Plan) → IsNoWorse I new old → BoundCloses b q (cost_in I old) → BoundCloses b q (cost_in I new)
  closes_no_worse b q new None h closes = closes_any b q (cost_in I new) closes
  closes_no_worse b q None (Some P) h closes = absurd h
  closes_no_worse b q (Some Q) (Some P) h closes = closes_lower b q (cost_of I P) (cost_of I Q) h closes

  within_no_worse : (P : Plan) (new old : Option Plan) → IsNoWorse I new old → IsSomeAnd old (λ Q. cost_of I Q ≤ cost_of I P) → IsSomeAnd new (λ Q. cost_of I Q ≤ cost_of I P)
  within_no_worse P new None h some = absurd some
  within_no_worse P None (Some Q) h some = absurd h
  within_no_worse P (Some R) (Some Q) h some = omega (arith, h, some)

  module _ (path : Path) (new old : Option Plan) (h : IsNoWorse I new old) where
    pub closes_still : (d : Duals) → ClosesWith I old path d → ClosesWith I new path d
    closes_still d closes = closes_no_worse (leaf_bound I path d) d.q new old h closes

    pub sought_still : (d : Duals) → IsSoughtAt I old path d → IsSoughtAt I new path d
    sought_still d sought P is = within_no_worse P new old h (sought P is)

  -- a plan that is no worse than what is packed
  pub some_within : (new : Option Plan) (packed : Option Plan) (P : Plan) → IsNoWorse I new packed → packed ≡ Some P → IsSomeAnd new (λ Q. cost_of I Q ≤ cost_of I P)
  some_within new packed P h is = elim_some new P (subst (IsNoWorse I new) is h)
    where
      elim_some : (new : Option Plan) (P : Plan) → IsNoWorse I new (Some P) → IsSomeAnd new (λ Q. cost_of I Q ≤ cost_of I P)
      elim_some None P k = absurd k
      elim_some (Some Q) P k = k
