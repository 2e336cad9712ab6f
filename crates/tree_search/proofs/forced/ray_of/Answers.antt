use mir.Syntax.{w128}
use Rattle.std.proofs.Common.{◌∙◌}
use Rattle.std.proofs.lemmas.Int.{to_z-of_z}
use Rattle.tree_search.proofs.ForcedDemands.{pushed_more}
use Rattle.tree_search.proofs.forced.ray_of.Goals as goal

pub loop-cust-preserved : goal.loop-cust-preserved
loop-cust-preserved c = pushed_more _ _ _ _ _ c.in_ok-push.ensures.items c.loop-cust.invariant (to_z-of_z w128 c.forced_value.result (record { sfits = c.forced_value.type_inv }) ∙ c.forced_value.ensures)
