use Rattle.std.proofs.Common.{arith, ap, sym, ◌∙◌, Some}
use Rattle.std.specs.Prelude.{slice_get}
use Rattle.location_terms.specs.Tree.{nodes_of}
use Rattle.branch_tree.specs.Made.{nodes_shown}
use Rattle.branch_tree.proofs.Stored.{stored_size, stored_shown_at}
use Rattle.branch_tree.proofs.tree.Tree.node.Goals as goal

pub index-requires : goal.index-requires
index-requires c = omega (arith, stored_size c.self.invariant, ap nodes_of c.self.view_is)

pub returns : goal.returns
returns c = ap (λ t. slice_get (nodes_shown t.root) c.args.at) (sym c.self.view_is) ∙ stored_shown_at c.self.invariant c.args.at c.index.result.now (omega (arith, stored_size c.self.invariant, ap nodes_of c.self.view_is)) c.index.ensures ∙ ap Some (sym c.shown.ensures)
