use Rattle.std.proofs.Common.{◌≡◌, ◌++◌, map, take}
use Rattle.std.specs.Prelude.{filter}
use Rattle.certificate_lines.specs.Text.{is_status}
use Rattle.certificate_text.specs.Written.{counted}
use Rattle.certificate_text.proofs.print.push_status.Given as goal

abbrev pub invariant-loop-i : goal.invariant-loop-i
invariant-loop-i l = l.text.items ≡ l.fn.text.items ++ l.word ++ counted (map (λ s. s.id) (filter (λ s. is_status l.status s.status) (take l.i l.inst.sites)))
