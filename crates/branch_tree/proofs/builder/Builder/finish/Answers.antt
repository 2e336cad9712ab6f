use Rattle.std.proofs.Common.{ap, sym, subst, Some, []}
use Rattle.branch_tree.specs.Walk.{IsWhole}
use Rattle.branch_tree.proofs.Whole.{whole_stored}
use Rattle.branch_tree.proofs.builder.Builder.finish.Goals as goal

pub of_nodes-requires : goal.of_nodes-requires
of_nodes-requires c = whole_stored c.self.invariant (subst (IsWhole (Some [])) (sym (ap (λ b. b.entries) c.self.view_is)) c.requires)
