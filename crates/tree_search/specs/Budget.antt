-- The budget of nodes of a search.
use Rattle.std.specs.Prelude.{ℕ, ◌+◌, ◌*◌, ◌/◌, length, min, Option, None, Some}
use Rattle.location_terms.specs.Instance.{Instance}
use Rattle.branch_tree.specs.declared.limits.TheConstants.{MAX_TREE_NUMBERS}
use Rattle.tree_search.specs.declared.budget.TheConstants.{DEFAULT_BUDGET}

-- the greatest budget for an instance: 20,000,000, half the limit on a tree's numbers, over the number of its sites and customers, rounded down
abbrev pub max_budget : Instance → ℕ
max_budget I = MAX_TREE_NUMBERS / (2 * (length I.sites + length I.customers))

-- the budget in force, where one is given or none
abbrev pub budget_in : Instance → Option ℕ → ℕ
budget_in I None = min (max_budget I) DEFAULT_BUDGET
budget_in I (Some budget) = budget
