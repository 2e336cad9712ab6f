use Rattle.std.proofs.Common.{◌≡◌, ◌&&◌, not, true, map}
use Rattle.std.specs.Prelude.{IfSome, option_map}
use Rattle.std.specs.List.{list_all}
use Rattle.location_terms.specs.Instance.{site_ids}
use Rattle.number_words.specs.Number.{is_number, is_plain_number, is_rising}
use Rattle.certificate_lines.specs.Head.{numbers}
use Rattle.certificate_lines.specs.Lines.{is_among, is_in_range, is_same, pairs_of}
use Rattle.certificate_lines.proofs.Walks.{behind}
use Rattle.certificate_lines.proofs.row_checks.prices_checked.Given as goal

abbrev pub invariant-loop-site : goal.invariant-loop-site
invariant-loop-site l = record {
  are_numbers : list_all is_number l.words ≡ true;
  are_plain : list_all is_plain_number l.words ≡ true;
  last_number : IfSome l.last (λ w. is_number w.now ≡ true);
  last_plain : IfSome l.last (λ w. is_plain_number w.now ≡ true);
  canonical : l.checks.canonical && (is_rising (behind (option_map (λ w. w.now) l.last) (map (λ p. p.0) (pairs_of (numbers l.words)))) && list_all (λ p. not (is_same p.1 0)) (pairs_of (numbers l.words))) ≡ (is_rising (map (λ p. p.0) (pairs_of (numbers l.fn.words))) && list_all (λ p. not (is_same p.1 0)) (pairs_of (numbers l.fn.words)));
  in_range : l.checks.in_range && list_all (is_in_range l.inst) (pairs_of (numbers l.words)) ≡ list_all (is_in_range l.inst) (pairs_of (numbers l.fn.words));
  known : l.checks.known && list_all (λ p. is_among (site_ids l.inst) p.0) (pairs_of (numbers l.words)) ≡ list_all (λ p. is_among (site_ids l.inst) p.0) (pairs_of (numbers l.fn.words));
}
