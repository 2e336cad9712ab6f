use Rattle.std.proofs.Common.{ℕ, ◌*◌, ◌+◌, ◌/◌, ◌≤◌, [], ◌∙◌, sym, subst, arith, inl, length}
use Rattle.std.specs.Prelude.{All}
use Rattle.std.proofs.Math.Nat.{div-mul-le_self}
use Rattle.std.proofs.lemmas.Nat.{mul-le}
use Rattle.std.proofs.lemmas.Bool.{ltb-false}
use Rattle.std.proofs.lemmas.List.Elements.{All-nil, All-cons}
use Rattle.location_terms.specs.Leaf.{LeafFits}
use Rattle.location_terms.specs.Tree.{Tree, leaves_of, nodes_of}
use Rattle.dual_value.specs.Zeros.{zeros}
use Rattle.dual_value.proofs.Zeros.{zeros_fit}
use Rattle.branch_tree.specs.declared.limits.TheConstants.{MAX_TREE_NUMBERS}
use Rattle.leaf_repair.proofs.carrying.carry.Goals as goal

pub returns-then-is_too_large-clause-fit : goal.returns-then-is_too_large-clause-fit
returns-then-is_too_large-clause-fit c =
    let I = c.args.inst.now in
    let fits : LeafFits I (zeros I 1) = record { numbers = zeros_fit I 1 (omega arith); prices = tt; knapsacks = tt } in
    subst (λ (x : Tree). All (λ l. LeafFits I l.1) (leaves_of x)) (sym c.in_ok-root.ensures) (All-cons (λ l. LeafFits I l.1) ([], zeros I 1) [] fits (All-nil (λ l. LeafFits I l.1)))

pub returns-clause-few : goal.returns-clause-few
returns-clause-few c =
    let I = c.args.inst.now in
    let k : ℕ = length I.sites + length I.customers in
    let n : ℕ = nodes_of c.in_ok-reduced.reduced in
    let at_most = ltb-false (MAX_TREE_NUMBERS / k) (2 * c.nodes.result) (sym c.is_too_large.ensures ∙ c.if-is_too_large.false) in
    let within : 2 * n ≤ MAX_TREE_NUMBERS / k = omega (arith, at_most, c.nodes.ensures.count) in
    let times = mul-le (2 * n) k (MAX_TREE_NUMBERS / k) k within (omega arith) in
    inl (omega (arith, times, div-mul-le_self MAX_TREE_NUMBERS k))
