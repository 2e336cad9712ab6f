use Rattle.std.proofs.Common.{sym, ap, ◌∙◌}
use Rattle.shelf_lines.specs.Rest.{LineState}
use Rattle.shelf_lines.proofs.Pieces.{between}
use Rattle.shelf_lines.proofs.reader.LineReader.ahead.Goals as goal

pub returns : goal.returns
returns c = sym (between _ _ _ c.self.invariant.0) ∙ ap (λ (r : LineState). r.ahead) c.self.view_is
