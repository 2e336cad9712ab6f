use Rattle.std.proofs.Common.{refl, ap, ◌∙◌}
use Rattle.number_words.specs.Words.{words_of}
use Rattle.fixed_cost.specs.Reading.{end_after}
use Rattle.fixed_cost.proofs.Ends.{end_after_first}
use Rattle.fixed_cost.proofs.fault.FileFault.ended.Goals as goal

pub loop-word-init : goal.loop-word-init
loop-word-init c = record {
  kind = refl;
  same = ap (end_after (1, 1)) (c.into_iter-word-iterator.ensures.into_iter_gives ∙ c.new-word-items.ensures) ∙ end_after_first (words_of c.args.bytes.now);
}
