use Rattle.std.proofs.Common.{◌∙◌, length, sym, ap, arith}
use Rattle.sqlite_rows.specs.Stored.{base_row}
use Rattle.sqlite_rows.proofs.Lines.{read-one, read-all, none-read, none-based}
use Rattle.sqlite_rows.proofs.scenario.edited.Goals as goal

pub returns-in_default-clause-unlike : goal.returns-in_default-clause-unlike
returns-in_default-clause-unlike c = λ _. none-based _ _ c.in_default.ensures

pub returns-in_default-body_at-clause-unlike : goal.returns-in_default-body_at-clause-unlike
returns-in_default-body_at-clause-unlike c = λ _.
    none-read c.loop-line.scenario _ _ _ _ c.loop-line-test.true c.loop-line.invariant.1 c.line-item.is c.in_default-body_at.ensures

pub loop-line-preserved : goal.loop-line-preserved
loop-line-preserved c = (
  c.loop-line.invariant.0 ∙ ap (λ s. base_row s.base (length c.args.lines.now)) (sym c.in_ok-push.ensures.pushed),
  read-one c.loop-line.scenario _ _ _ _ _ c.loop-line-test.true c.loop-line.invariant.1 c.line-item.is c.in-Some-body_at.ensures c.in_ok-push.ensures.pushed,
)

pub returns-clause-edited : goal.returns-clause-edited
returns-clause-edited c =
    read-all _ _ _ c.loop-line.line-index (omega (arith, c.loop-line-test.false)) c.loop-line.invariant.0 c.loop-line.invariant.1
