use Rattle.std.proofs.Common.{◌≡◌, ◌++◌, take}
use Rattle.std.specs.Prelude.{codes}
use Rattle.certificate_lines.specs.Text.{priced}
use Rattle.certificate_text.specs.Written.{counted}
use Rattle.certificate_text.proofs.print.push_prices.Given as goal

abbrev pub invariant-loop-k : goal.invariant-loop-k
invariant-loop-k l = l.text.items ≡ l.fn.text.items ++ codes "u" ++ counted (priced (take l.k l.sites) (take l.k l.prices))
