use Rattle.std.proofs.Common.{◌≡◌, ◌-◌, ◌≤◌, length, drop}
use Rattle.number_words.specs.Scan.{words_left, HasRoom}
use Rattle.number_words.proofs.scan.gap_before_word.Given as goal

-- what is behind the blanks so far gives the same words
abbrev pub invariant-loop-gap : goal.invariant-loop-gap
invariant-loop-gap l = record {
  in_range : l.gap.len ≤ length l.bytes;
  room : HasRoom l.gap.line l.gap.place (length l.bytes - l.gap.len);
  same : words_left l.gap.line l.gap.place (drop l.gap.len l.bytes) ≡ words_left l.line l.place l.bytes;
}

abbrev pub decreases-loop-gap : goal.decreases-loop-gap
decreases-loop-gap l = length l.bytes - l.gap.len
