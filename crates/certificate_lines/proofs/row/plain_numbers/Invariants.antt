use Rattle.std.proofs.Common.{◌≡◌, Some}
use Rattle.certificate_lines.specs.Head.{allows, plain_ahead, plain_in}
use Rattle.certificate_lines.specs.Shape.{Numbers}
use Rattle.certificate_lines.proofs.row.plain_numbers.Given as goal

abbrev pub invariant-loop-word : goal.invariant-loop-word
invariant-loop-word l = plain_ahead (Some l.walk) l.words ≡ plain_in (Numbers (allows l.fn.count)) l.fn.words
