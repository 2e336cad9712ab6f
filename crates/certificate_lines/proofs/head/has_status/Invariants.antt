use Rattle.std.proofs.Common.{◌≡◌, true, drop, map}
use Rattle.std.specs.Prelude.{filter}
use Rattle.std.specs.List.{list_all}
use Rattle.number_words.specs.Number.{is_number}
use Rattle.certificate_lines.specs.Text.{ids_where, is_status}
use Rattle.certificate_lines.specs.Head.{numbers}
use Rattle.certificate_lines.specs.Lines.{behind_first, same_ids}
use Rattle.certificate_lines.proofs.head.has_status.Given as goal

abbrev pub invariant-loop-i : goal.invariant-loop-i
invariant-loop-i l = record {
  are_numbers : list_all is_number l.words ≡ true;
  same : same_ids (map (λ s. s.id) (filter (λ s. is_status l.status s.status) (drop l.i l.inst.sites))) (numbers l.words) ≡ same_ids (ids_where (is_status l.status) l.inst) (numbers (behind_first l.line));
}
