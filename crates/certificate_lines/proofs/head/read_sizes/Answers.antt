use Rattle.std.proofs.Common.{sym, ap, subst, ◌∙◌}
use Rattle.certificate_lines.specs.Model.{AnswersDue}
use Rattle.certificate_lines.specs.Head.{plain_in}
use Rattle.certificate_lines.specs.Lines.{sizes_shape, sizes_said}
use Rattle.certificate_lines.proofs.head.read_sizes.Goals as goal

pub returns-in-Some : goal.returns-in-Some
returns-in-Some c = c.in-Some.ensures.said sizes_shape (sizes_said c.args.inst.now) (c.plain_sizes.ensures ∙ ap (plain_in sizes_shape) c.new.ensures)

pub returns-in-None : goal.returns-in-None
returns-in-None c = subst (AnswersDue c.sizes_said.result) (sym (c.in-None.ensures.said sizes_shape (sizes_said c.args.inst.now) (c.plain_sizes.ensures ∙ ap (plain_in sizes_shape) c.new.ensures))) c.sizes_said.ensures
