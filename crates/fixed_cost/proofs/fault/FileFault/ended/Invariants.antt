use Rattle.std.proofs.Common.{◌≡◌}
use Rattle.fixed_cost.specs.declared.fault.FileKind.TheVariants.{Ended}
use Rattle.number_words.specs.Words.{words_of, end_of}
use Rattle.fixed_cost.specs.Reading.{end_after}
use Rattle.fixed_cost.proofs.fault.FileFault.ended.Given as goal

-- the place behind the words so far, and what is left, give the place behind all
abbrev pub invariant-loop-word : goal.invariant-loop-word
invariant-loop-word l = record {
  kind : l.fault.kind ≡ Ended;
  same : end_after (l.fault.line, l.fault.word) l.word-iterator ≡ end_of (words_of l.bytes);
}
