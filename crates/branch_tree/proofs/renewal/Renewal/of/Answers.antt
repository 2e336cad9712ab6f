use Rattle.std.proofs.Common.{◌∙◌, ap}
use Rattle.branch_tree.specs.Preorder.{tree_of}
use Rattle.branch_tree.specs.Renewing.{renewing_from}
use Rattle.branch_tree.proofs.Ahead.{leaves_stored}
use Rattle.branch_tree.proofs.Renewing.{same_renewing}
use Rattle.branch_tree.proofs.renewal.Renewal.of.Goals as goal

pub returns : goal.returns
returns c =
    let parts = c.into_parts-sites in
    same_renewing parts.result.0.items parts.result.1.items _ (tree_of parts.result.2.items) _ 0 _ _ (ap tree_of c.in_ok-course.ensures.nodes) c.in_ok-course.ensures.settled (c.in_ok-course.ensures.ahead ∙ leaves_stored parts.ensures.stored)
    ∙ ap renewing_from parts.ensures.same
