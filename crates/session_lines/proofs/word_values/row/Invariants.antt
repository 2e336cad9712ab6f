use Rattle.std.proofs.Common.{◌≡◌}
use Rattle.instance_store.specs.Small.{AreSmall}
use Rattle.session_lines.specs.Lines.{row_words}
use Rattle.session_lines.proofs.Words.{with_front}
use Rattle.session_lines.proofs.word_values.row.Given as goal

-- the lanes so far and those of the words that are left are all
abbrev pub invariant-loop-word : goal.invariant-loop-word
invariant-loop-word l = record {
  whole : with_front l.row (row_words l.words) ≡ row_words l.fn.words;
  small : AreSmall l.row;
}
