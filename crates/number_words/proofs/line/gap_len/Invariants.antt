use Rattle.std.proofs.Common.{◌≡◌, ◌-◌, ◌≤◌, length, drop}
use Rattle.number_words.specs.Line.{words_of_line}
use Rattle.number_words.proofs.line.gap_len.Given as goal

-- what is behind the blanks so far has the same words
abbrev pub invariant-loop-len : goal.invariant-loop-len
invariant-loop-len l = record {
  in_range : l.len ≤ length l.bytes;
  same : words_of_line (drop l.len l.bytes) ≡ words_of_line l.bytes;
}

abbrev pub decreases-loop-len : goal.decreases-loop-len
decreases-loop-len l = length l.bytes - l.len
