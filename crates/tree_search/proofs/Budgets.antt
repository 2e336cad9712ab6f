-- Budgets up to the greatest one are within the limit.
use Rattle.std.proofs.Common.{ℕ, ◌+◌, ◌*◌, ◌/◌, ◌≤◌, length, arith}
use Rattle.std.proofs.Math.Nat.{div-mul-le_self}
use Rattle.std.proofs.lemmas.Nat.{mul-le}
use Rattle.location_terms.specs.Instance.{Instance}
use Rattle.branch_tree.specs.declared.limits.TheConstants.{MAX_TREE_NUMBERS}
use Rattle.tree_search.specs.Answer.{IsWithin}
use Rattle.tree_search.specs.Budget.{max_budget}

pub budget_within : (I : Instance) (budget : ℕ) → budget ≤ max_budget I → IsWithin I budget
budget_within I budget small =
    let d = 2 * (length I.sites + length I.customers) in
    let product : budget * d ≤ (MAX_TREE_NUMBERS / d) * d = mul-le budget d (MAX_TREE_NUMBERS / d) d small (omega arith) in
    omega (arith, product, div-mul-le_self MAX_TREE_NUMBERS d)
