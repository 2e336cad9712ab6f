use Rattle.std.proofs.Common.{◌≡◌, ◌&&◌, true}
use Rattle.std.specs.Prelude.{IfSome, option_map}
use Rattle.std.specs.List.{list_all}
use Rattle.location_terms.specs.Instance.{site_ids}
use Rattle.number_words.specs.Number.{is_number, is_plain_number, is_rising}
use Rattle.certificate_lines.specs.Head.{numbers}
use Rattle.certificate_lines.specs.Lines.{is_id, is_among}
use Rattle.certificate_lines.proofs.Walks.{behind}
use Rattle.certificate_lines.proofs.row_checks.sites_checked.Given as goal

abbrev pub invariant-loop-word : goal.invariant-loop-word
invariant-loop-word l = record {
  are_numbers : list_all is_number l.words ≡ true;
  are_plain : list_all is_plain_number l.words ≡ true;
  last_number : IfSome l.last (λ w. is_number w.now ≡ true);
  last_plain : IfSome l.last (λ w. is_plain_number w.now ≡ true);
  canonical : l.checks.canonical && is_rising (behind (option_map (λ w. w.now) l.last) (numbers l.words)) ≡ is_rising (numbers l.fn.words);
  in_range : l.checks.in_range && list_all is_id (numbers l.words) ≡ list_all is_id (numbers l.fn.words);
  known : l.checks.known && list_all (is_among (site_ids l.inst)) (numbers l.words) ≡ list_all (is_among (site_ids l.inst)) (numbers l.fn.words);
}
