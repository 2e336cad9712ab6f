-- What is taken from the sites that packing opens makes a plan.
use Rattle.std.proofs.Common.{◌≡◌, ℕ, List, [], Some, sym, ap, subst, ◌∙◌}
use Rattle.location_terms.specs.Instance.{Instance, IsValid}
use Rattle.location_terms.specs.Plan.{IsPlan}
use Rattle.location_terms.specs.Box.{Path}
use Rattle.plan_search.specs.Packed.{chosen, by_falling_demand, all_taken, plan_of}
use Rattle.plan_search.specs.Packing.{ArePairs}
use Rattle.plan_search.proofs.OpenSites.{chosen_below}
use Rattle.plan_search.proofs.Taken.{AreTaken, none_taken, all_take}
use Rattle.plan_search.proofs.PlanOf.{are_pairs}
use Rattle.plan_search.proofs.Feasible.{plan_is_plan}

module _ (I : Instance) (path : Path) (hint : List ℕ) (sites : List ℕ) (same : sites ≡ chosen I path hint) (valid : IsValid I) (taken : List (ℕ × ℕ)) (is : Some taken ≡ all_taken I path sites) where
  are : AreTaken I path (chosen I path hint) (by_falling_demand I) taken
  are = all_take I path (chosen I path hint) (by_falling_demand I) [] [] taken (none_taken I path (chosen I path hint)) (sym (is ∙ ap (all_taken I path) same))

  pub taken_pairs : ArePairs I taken
  taken_pairs = are_pairs I path (chosen I path hint) taken are (chosen_below I path hint)

  pub made_plan : IsPlan (plan_of I sites taken)
  made_plan = subst (λ xs. IsPlan (plan_of I xs taken)) (sym same) (plan_is_plan I path hint valid taken are)
