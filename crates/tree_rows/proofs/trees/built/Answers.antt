use Rattle.std.proofs.Common.{sym, ap, subst, ◌∙◌, Some, []}
use Rattle.location_terms.specs.Tree.{Leaf, Fork}
use Rattle.location_terms.specs.declared.split.Split.TheVariants.{Site}
use Rattle.branch_tree.specs.declared.entry.Entry.TheVariants.{End, Branch}
use Rattle.branch_tree.specs.Begun.{Begun, grown}
use Rattle.branch_tree.specs.Walk.{IsWhole}
use Rattle.branch_tree.proofs.Whole.{whole-flat}
use Rattle.tree_rows.proofs.trees.built.Goals as goal

pub finish-requires : goal.finish-requires
finish-requires c =
    subst (λ (b : Begun). IsWhole (Some []) b.entries)
    (sym (c.in_ok-leaf-2.ensures.ok ∙ ap (λ b. grown b (End c.args.opened)) (c.in_ok-leaf.ensures.ok ∙ ap (λ b. grown b (End c.args.closed)) (c.in_ok-split.ensures.ok ∙ ap (λ b. grown b (Branch (Site c.args.site))) c.in_ok-builder.ensures))))
    (whole-flat (Fork (Site c.args.site) (Leaf c.args.closed) (Leaf c.args.opened)))
