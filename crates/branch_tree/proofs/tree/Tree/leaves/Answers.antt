use Rattle.std.proofs.Common.{◌≡◌, ◌∙◌, ap, subst, []}
use Rattle.std.specs.Prelude.{IfOk}
use Rattle.location_terms.specs.Tree.{IsTree, leaves_of}
use Rattle.branch_tree.specs.Walk.{leaves_ahead}
use Rattle.branch_tree.proofs.Ahead.{leaves_stored}
use Rattle.branch_tree.proofs.Stored.{stored_tree}
use Rattle.branch_tree.proofs.tree.Tree.leaves.Goals as goal

pub returns-clause-leaves : goal.returns-clause-leaves
returns-clause-leaves c =
    subst (λ ls. IfOk c.over.result (λ w. w ≡ ls)) (ap (leaves_ahead []) c.deref.ensures.value ∙ leaves_stored c.self.invariant ∙ ap leaves_of c.self.view_is) c.over.ensures

pub returns-clause-tree : goal.returns-clause-tree
returns-clause-tree c = subst IsTree c.self.view_is (stored_tree c.self.invariant)
