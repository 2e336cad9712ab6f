use Rattle.std.proofs.Common.{◌≡◌, ◌++◌, map, Some}
use Rattle.number_words.specs.Number.{clamped}
use Rattle.certificate_lines.specs.Head.{numbers, plain_ahead, plain_in}
use Rattle.certificate_lines.specs.Shape.{Numbers, just}
use Rattle.certificate_lines.proofs.leaf.value_list.Given as goal

abbrev pub invariant-loop-word : goal.invariant-loop-word
invariant-loop-word l = record {
  plain : plain_ahead (Some l.walk) l.words ≡ plain_in (Numbers (just l.fn.count)) l.fn.words;
  whole : l.values.items ++ map clamped (numbers l.words) ≡ map clamped (numbers l.fn.words);
}
