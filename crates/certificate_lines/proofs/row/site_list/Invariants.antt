use Rattle.std.proofs.Common.{◌≡◌, ◌++◌, true}
use Rattle.std.specs.List.{list_all}
use Rattle.number_words.specs.Number.{is_number}
use Rattle.certificate_lines.specs.Head.{numbers}
use Rattle.certificate_lines.specs.Lines.{behind_first, ids, is_id}
use Rattle.certificate_lines.proofs.row.site_list.Given as goal

abbrev pub invariant-loop-word : goal.invariant-loop-word
invariant-loop-word l = record {
  are_numbers : list_all is_number l.words ≡ true;
  are_ids : list_all is_id (numbers l.words) ≡ true;
  whole : l.list.items ++ ids (numbers l.words) ≡ ids (numbers (behind_first l.line));
}
