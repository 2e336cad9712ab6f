use Rattle.number_words.proofs.Values.{digit_value-pushed, pushed_more, pushed_all}
use Rattle.number_words.proofs.digit_run.push_wide_digits.Goals as goal

pub overflow_sub-b : goal.overflow_sub-b
overflow_sub-b c = (digit_value-pushed c.loop-b.invariant c.loop-b-test.true).0

pub push_wide_digit-whole-requires-clause-digit : goal.push_wide_digit-whole-requires-clause-digit
push_wide_digit-whole-requires-clause-digit c = (digit_value-pushed c.loop-b.invariant c.loop-b-test.true).1

pub loop-b-preserved : goal.loop-b-preserved
loop-b-preserved c = pushed_more _ c.loop-b.invariant c.loop-b-test.true c.push_wide_digit-whole.ensures

pub returns : goal.returns
returns c = pushed_all c.loop-b.invariant c.loop-b-test.false
