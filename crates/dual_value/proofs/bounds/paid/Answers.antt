use Rattle.std.proofs.Common.{length, sym, ◌∙◌}
use Rattle.dual_value.proofs.Unpaid.{unpaid_torn, unpaid_closed}
use Rattle.dual_value.proofs.bounds.paid.Goals as goal
use Rattle.dual_value.proofs.bounds.paid.Goals.{then-torn-via-then-torn, then-torn-via-else-torn+then-is_closed}

pub returns-then-torn-clause-exact : goal.returns-then-torn-clause-exact
returns-then-torn-clause-exact g c =
    let I = c.args.inst.now in
    let path = c.args.path.now.steps.now in
    let d = g.D.DualsByPlace.numbers c.args.duals.now in
    elim c.then-torn.branch [
      | then-torn-via-then-torn w ↦ sym (unpaid_torn I path d c.args.site (length I.customers) (sym c.requires.seen.torn ∙ w.if-torn.true))
      | then-torn-via-else-torn+then-is_closed w ↦ sym (unpaid_closed I path d c.args.site (length I.customers) (sym w.is_closed.ensures ∙ w.if-is_closed.true))
    ]
