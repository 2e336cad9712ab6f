use Rattle.std.proofs.Common.{arith, ap}
use Rattle.shelf_lines.specs.Rest.{LineState}
use Rattle.shelf_lines.proofs.InputSteps.{failed_told}
use Rattle.shelf_lines.proofs.reader.LineReader.peek_of.Goals as goal

pub returns-in_err-count-clause-rest : goal.returns-in_err-count-clause-rest
returns-in_err-count-clause-rest g c =
    failed_told _ _ _ _ _ c.self.inside.piece _ (omega (arith, c.if-self.false)) (ap (λ (r : LineState). r.ahead) c.self.view_is) c.in_err-count.ensures.err
