use Rattle.std.proofs.Common.{ap, ◌∙◌}
use Rattle.std.specs.Ordering.{is_lt}
use Rattle.number_words.proofs.Values.{longer_is_more, first_difference}
use Rattle.number_words.proofs.number_word.is_below.Goals as goal

pub returns-then-a-b : goal.returns-then-a-b
returns-then-a-b c =
    first_difference c.args.a.now c.args.b.now c.is_lt.result c.requires.a c.requires.b c.if-a-b.true (c.is_lt.ensures ∙ ap is_lt c.cmp.ensures)

pub returns-else-a-b : goal.returns-else-a-b
returns-else-a-b c = longer_is_more c.args.a.now c.args.b.now c.requires.a c.requires.b c.if-a-b.false
