use Rattle.std.proofs.Common.{arith}
use Rattle.std.proofs.lemmas.List.{take_all}
use Rattle.certificate_text.proofs.Rows.{numbers_added}
use Rattle.certificate_text.proofs.print.push_values.Goals as goal

pub returns : goal.returns
returns c =
    numbers_added c.extend_from_slice-2.result _ _ _ c.extend_from_slice-2.ensures.items _ _ c.loop-value.invariant (take_all c.loop-value.value-index c.args.values.now (omega arith))
