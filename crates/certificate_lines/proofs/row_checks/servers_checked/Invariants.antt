use Rattle.std.proofs.Common.{◌≡◌, ◌&&◌, true}
use Rattle.std.specs.List.{list_all}
use Rattle.location_terms.specs.Instance.{site_ids}
use Rattle.number_words.specs.Number.{is_number}
use Rattle.certificate_lines.specs.Head.{numbers}
use Rattle.certificate_lines.specs.Lines.{is_id, is_among}
use Rattle.certificate_lines.proofs.row_checks.servers_checked.Given as goal

abbrev pub invariant-loop-word : goal.invariant-loop-word
invariant-loop-word l = record {
  are_numbers : list_all is_number l.words ≡ true;
  canonical : l.checks.canonical ≡ true;
  in_range : l.checks.in_range && list_all is_id (numbers l.words) ≡ list_all is_id (numbers l.fn.words);
  known : l.checks.known && list_all (is_among (site_ids l.inst)) (numbers l.words) ≡ list_all (is_among (site_ids l.inst)) (numbers l.fn.words);
}
