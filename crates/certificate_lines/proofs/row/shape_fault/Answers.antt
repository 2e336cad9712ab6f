use Rattle.std.proofs.Common.{Some, None, sym, ◌∙◌}
use Rattle.std.proofs.lemmas.Bool.{and_from, and_left, and_right}
use Rattle.certificate_lines.proofs.Shapes.{shape-said, unless-holds, unless-fails}
use Rattle.certificate_lines.proofs.row.shape_fault.Goals as goal

pub returns-in-None-clause-said : goal.returns-in-None-clause-said
returns-in-None-clause-said c = λ shape say is. shape-said shape c.args.line.now say None (sym is ∙ c.in-None.is)

pub returns-in-Some-clause-said : goal.returns-in-Some-clause-said
returns-in-Some-clause-said c = λ shape say is. shape-said shape c.args.line.now say (Some c.in-Some.plain) (sym is ∙ c.in-Some.is) ∙ unless-holds _ _ _ (and_from _ _ c.if-plain.true (sym c.is_spaced.ensures ∙ c.if-is_spaced.true))

pub returns-in-Some-2-clause-said : goal.returns-in-Some-2-clause-said
returns-in-Some-2-clause-said c = λ shape say is. shape-said shape c.args.line.now say (Some c.in-Some.plain) (sym is ∙ c.in-Some.is) ∙ unless-fails _ _ _ (and_right c.in-Some.plain _ (sym c.is_spaced.ensures ∙ c.if-is_spaced.false))

pub returns-in-Some-2-2-clause-said : goal.returns-in-Some-2-2-clause-said
returns-in-Some-2-2-clause-said c = λ shape say is. shape-said shape c.args.line.now say (Some c.in-Some.plain) (sym is ∙ c.in-Some.is) ∙ unless-fails _ _ _ (and_left _ _ c.if-plain.false)
