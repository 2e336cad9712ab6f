use Rattle.std.proofs.Common.{◌&&◌, sym, ap, ◌∙◌}
use Rattle.std.specs.Prelude.{option_map}
use Rattle.std.specs.List.{list_all}
use Rattle.location_terms.specs.Instance.{site_ids}
use Rattle.number_words.specs.Number.{is_number, is_plain_number, number_of, is_rising}
use Rattle.certificate_lines.specs.Head.{numbers}
use Rattle.certificate_lines.specs.Lines.{is_id, is_among}
use Rattle.certificate_lines.proofs.Walks.{behind, first_and_rest, more-rising, more-tested}
use Rattle.certificate_lines.proofs.row_checks.sites_checked.Goals as goal

pub loop-word-preserved : goal.loop-word-preserved
loop-word-preserved c =
    let kept = c.loop-word.invariant in
    let checks = c.loop-word.checks in
    let now = c.with_site-checks in
    let last = option_map (λ w. w.now) c.loop-word.last in
    let word = c.in-Some.word.now in
    let rest = c.next.new.self in
    let steps = c.in-Some.ensures.steps in
    let are_numbers = first_and_rest is_number word rest c.loop-word.words steps kept.are_numbers in
    let are_plain = first_and_rest is_plain_number word rest c.loop-word.words steps kept.are_plain in
    record {
      are_numbers = are_numbers.1;
      are_plain = are_plain.1;
      last_number = are_numbers.0;
      last_plain = are_plain.0;
      canonical = more-rising last word (numbers rest) checks.canonical now.result.canonical now.ensures.canonical
          ∙ ap (λ ws. checks.canonical && is_rising (behind last (numbers ws))) (sym steps) ∙ kept.canonical;
      in_range = more-tested is_id (number_of word) (numbers rest) checks.in_range now.result.in_range now.ensures.in_range
          ∙ ap (λ ws. checks.in_range && list_all is_id (numbers ws)) (sym steps) ∙ kept.in_range;
      known = more-tested (is_among (site_ids c.args.inst.now)) (number_of word) (numbers rest) checks.known now.result.known now.ensures.known
          ∙ ap (λ ws. checks.known && list_all (is_among (site_ids c.args.inst.now)) (numbers ws)) (sym steps) ∙ kept.known;
    }
