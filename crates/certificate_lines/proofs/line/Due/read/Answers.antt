use Rattle.certificate_lines.specs.Due.{Suits}
use Rattle.certificate_lines.specs.Model.{due_of, IsSound}
use Rattle.certificate_lines.specs.Lines.{read_line}
use Rattle.certificate_lines.proofs.Gives.{gives-line, kept}
use Rattle.certificate_lines.proofs.line.Due.read.Goals as goal

pub returns-clause-suits : goal.returns-clause-suits
returns-clause-suits c =
    let I = c.args.inst.now in
    let due = due_of c.args.self in
    let line = c.args.line.now in
    kept I (λ read. Suits I read.0) (λ read good. good.0) c.read_due.result (read_line I due line) c.read_due.ensures (λ read is. gives-line I due line read c.requires is)

pub returns-clause-sound : goal.returns-clause-sound
returns-clause-sound c =
    let I = c.args.inst.now in
    let due = due_of c.args.self in
    let line = c.args.line.now in
    kept I (λ read. IsSound I read.1) (λ read good. good.1) c.read_due.result (read_line I due line) c.read_due.ensures (λ read is. gives-line I due line read c.requires is)
