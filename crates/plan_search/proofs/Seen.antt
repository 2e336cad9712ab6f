-- What is known of the plan that is packed.
use Rattle.std.proofs.Common.{◌≡◌, ℕ, List, Option, None, Some, sym, arith}
use Rattle.std.specs.Prelude.{IfSome}
use Rattle.location_terms.specs.Instance.{Instance, IsValid}
use Rattle.location_terms.specs.Plan.{Plan, IsFeasible}
use Rattle.location_terms.specs.Box.{Path, IsInBox}
use Rattle.plan_search.specs.InBox.{IsPathOf, HasNoCaps, SettlesSites, IsNoWorse, IsBestIn}
use Rattle.plan_search.specs.Packed.{packed}
use Rattle.plan_search.proofs.Feasible.{packed_feasible, packed_in_box}
use Rattle.plan_search.proofs.Cheapest.{packed_cheapest, never_none}

module _ (I : Instance) (path : Path) (hint : List ℕ) (valid : IsValid I) where
  pub seen_feasible : (plan : Option Plan) → plan ≡ packed I path hint → IfSome plan (IsFeasible I)
  seen_feasible None is = tt
  seen_feasible (Some P) is = packed_feasible I path hint valid P (sym is)

  pub seen_in_box : IsPathOf I path → (plan : Option Plan) → plan ≡ packed I path hint → IfSome plan (λ P. IsInBox P path)
  seen_in_box known None is = tt
  seen_in_box known (Some P) is = packed_in_box I path hint valid P (sym is) known

  pub seen_best : IsPathOf I path → HasNoCaps I → SettlesSites I path → (plan : Option Plan) → plan ≡ packed I path hint → IsBestIn I path plan
  seen_best known no_caps settled None is = λ Q can box. never_none I path hint valid no_caps settled Q can box (sym is)
  seen_best known no_caps settled (Some P) is = packed_cheapest I path hint valid known no_caps settled P (sym is)

-- what is no worse than a best plan of the box is a best one too
pub best_stays : (I : Instance) (path : Path) (best found : Option Plan) → IsBestIn I path best → IfSome found (IsFeasible I) → IfSome found (λ P. IsInBox P path) →
    IsNoWorse I found best → IsBestIn I path found
best_stays I path None None best can box no_worse = best
best_stays I path None (Some Q) best can box no_worse = absurd (best Q can box)
best_stays I path (Some P) None best can box no_worse = absurd no_worse
best_stays I path (Some P) (Some Q) best can box no_worse =
    record { feasible = can; in_box = box; least = λ R feasible within. omega (arith, no_worse, best.least R feasible within) }
