use Rattle.std.proofs.Common.{◌≡◌, false, drop}
use Rattle.number_words.proofs.Lines.{spaced_from}
use Rattle.number_words.proofs.line.is_spaced.Given as goal

-- what is left of the line, behind a word or not, gives the answer
abbrev pub invariant-loop-b : goal.invariant-loop-b
invariant-loop-b l = spaced_from l.in_word (drop l.b-index l.line) ≡ spaced_from false l.line
