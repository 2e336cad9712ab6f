use Rattle.std.proofs.Common.{◌≡◌, true, length, map}
use Rattle.std.specs.List.{list_all}
use Rattle.location_terms.specs.Instance.{site_ids}
use Rattle.number_words.specs.Number.{is_number, is_rising}
use Rattle.certificate_lines.specs.Head.{numbers}
use Rattle.certificate_lines.specs.Lines.{behind_first, is_among, is_in_range, pairs_of, price_in}
use Rattle.certificate_lines.proofs.PricesSet.{prices_set}
use Rattle.certificate_lines.proofs.leaf.price_list.Given as goal

abbrev pub invariant-loop-site : goal.invariant-loop-site
invariant-loop-site l = record {
  are_numbers : list_all is_number l.words ≡ true;
  rising : is_rising (map (λ p. p.0) (pairs_of (numbers l.words))) ≡ true;
  in_range : list_all (is_in_range l.inst) (pairs_of (numbers l.words)) ≡ true;
  known : list_all (λ p. is_among (site_ids l.inst) p.0) (pairs_of (numbers l.words)) ≡ true;
  each : length l.list.items ≡ length l.inst.sites;
  whole : prices_set (pairs_of (numbers l.words)) (site_ids l.inst) l.list.items ≡ map (price_in (pairs_of (numbers (behind_first l.line)))) (site_ids l.inst);
}
