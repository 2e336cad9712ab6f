use Rattle.std.proofs.Common.{◌+◌, ◌<◌, ◌≤◌, length, length-drop, take, arith, ap, ◌∙◌}
use Rattle.std.proofs.lemmas.List.{length-take}
use Rattle.shelf_lines.specs.Rest.{LineState}
use Rattle.shelf_lines.proofs.Pieces.{none_ahead, failed_rest, fetched_rest, end_reached}
use Rattle.shelf_lines.proofs.Told.{file_has, has_more}
use Rattle.shelf_lines.proofs.reader.LineReader.peek.Goals as goal
use Rattle.shelf_lines.proofs.reader.LineReader.peek.Goals.{then-count-eq0, else-count-eq0}

pub returns-then-self-clause-there : goal.returns-then-self-clause-there
returns-then-self-clause-there g c =
    λ none.
    let left = ap (λ (r : LineState). r.ahead) c.self.view_is ∙ none in
    absurd (omega (arith, ap length left, length-drop c.self.inside.from (take c.self.inside.to c.self.inside.piece), length-take c.self.inside.to c.self.inside.piece, c.self.told, c.self.invariant.1, c.if-self.true))

pub returns-in_err-count-clause-rest : goal.returns-in_err-count-clause-rest
returns-in_err-count-clause-rest g c =
    λ files is file there.
    failed_rest _ _ _ _ _ c.self.inside.piece _ _ file (omega (arith, c.if-self.false)) c.self.view_is

pub returns-clause-end : goal.returns-clause-end
returns-clause-end g c =
    elim c.if-count-eq0.branch [
      | then-count-eq0 w ↦ λ _.
          let room : 0 < length c.read_at.new.into = omega (arith, c.read_at.auto.into, length-take c.min-room.result c.self.inside.piece, c.self.told, c.min-room.ensures, c.self.invariant.2, c.if-self-2.false) in
          has_more _ _ _ _ (λ files is file there reads. end_reached _ _ _ _ _ _ _ file w.if-count-eq0.true room c.self.invariant.2 reads) c.in_ok-count.ensures.bytes
      | else-count-eq0 w ↦ λ e. cc
    ]

pub returns-clause-rest : goal.returns-clause-rest
returns-clause-rest g c =
    λ files is file there.
    let within : c.self.inside.at + c.in_ok-count.count ≤ c.self.inside.limit = omega (arith, c.in_ok-count.ensures.bound, c.read_at.auto.into, length-take c.min-room.result c.self.inside.piece, c.min-room.ensures, c.self.invariant.2) in
    fetched_rest _ _ _ _ _ _ _ _ _ file c.self.view_is (none_ahead _ _ c.self.inside.piece (omega (arith, c.if-self.false))) (file_has _ _ _ c.in_ok-count.ensures.bytes files is file there) c.in_ok-count.ensures.bound within
