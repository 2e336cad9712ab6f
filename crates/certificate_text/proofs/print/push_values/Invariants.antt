use Rattle.std.proofs.Common.{◌≡◌, ◌++◌, take}
use Rattle.std.specs.Prelude.{codes}
use Rattle.certificate_text.specs.Written.{numbered}
use Rattle.certificate_text.proofs.print.push_values.Given as goal

abbrev pub invariant-loop-value : goal.invariant-loop-value
invariant-loop-value l = l.text.items ≡ l.fn.text.items ++ codes "v" ++ numbered (take l.value-index l.values)
