use Rattle.std.proofs.Common.{sym, subst, lit≤}
use Rattle.location_terms.specs.Leaf.{LeafFits}
use Rattle.dual_value.proofs.Zeros.{zeros_fit}
use Rattle.branch_tree.proofs.tree.Tree.root.Goals as goal

pub leaf-requires : goal.leaf-requires
leaf-requires c = subst (LeafFits c.args.inst.now) (sym c.in_ok-duals.ensures) (record { numbers = zeros_fit c.args.inst.now 1 (lit≤ tt); prices = tt; knapsacks = tt })
