use Rattle.std.proofs.Common.{◌^◌}
use Rattle.number_words.proofs.Values.{IsPushed}
use Rattle.number_words.proofs.digit_run.push_wide_digits.Given as goal

-- the value so far, and the digits that are left, give the answer
abbrev pub invariant-loop-b : goal.invariant-loop-b
invariant-loop-b l = IsPushed (10 ^ 30) l.value l.digits l.whole l.b-index
