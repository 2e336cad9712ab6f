use Rattle.std.proofs.Common.{◌≡◌, ◌&&◌, ◌∷◌, not, map, sym, ap, ◌∙◌}
use Rattle.std.specs.Prelude.{option_map}
use Rattle.std.specs.List.{list_all}
use Rattle.location_terms.specs.Instance.{site_ids}
use Rattle.number_words.specs.Number.{is_number, is_plain_number, number_of, is_rising}
use Rattle.certificate_lines.specs.Head.{numbers}
use Rattle.certificate_lines.specs.Lines.{Price, is_among, is_in_range, is_same, pairs_of}
use Rattle.certificate_lines.proofs.Walks.{behind, first_and_rest, more-canonical, more-in_range, more-tested}
use Rattle.certificate_lines.proofs.row_checks.prices_checked.Goals as goal

pub with_site-with_site-requires-clause-number : goal.with_site-with_site-requires-clause-number
with_site-with_site-requires-clause-number c = (first_and_rest is_number c.in-Some.site.now c.next.new.self c.loop-site.words c.in-Some.ensures.steps c.loop-site.invariant.are_numbers).0

pub with_site-with_site-requires-clause-plain : goal.with_site-with_site-requires-clause-plain
with_site-with_site-requires-clause-plain c = (first_and_rest is_plain_number c.in-Some.site.now c.next.new.self c.loop-site.words c.in-Some.ensures.steps c.loop-site.invariant.are_plain).0

pub with_price-checks-requires-clause-site : goal.with_price-checks-requires-clause-site
with_price-checks-requires-clause-site c = (first_and_rest is_number c.in-Some.site.now c.next.new.self c.loop-site.words c.in-Some.ensures.steps c.loop-site.invariant.are_numbers).0

pub with_price-checks-requires-clause-price : goal.with_price-checks-requires-clause-price
with_price-checks-requires-clause-price c =
    let rest = first_and_rest is_number c.in-Some.site.now c.next.new.self c.loop-site.words c.in-Some.ensures.steps c.loop-site.invariant.are_numbers in
    (first_and_rest is_number c.in-Some-next.price.now c.next-in-Some.new.self c.next.new.self c.in-Some-next.ensures.steps rest.1).0

pub loop-site-preserved : goal.loop-site-preserved
loop-site-preserved c =
    let I = c.args.inst.now in
    let kept = c.loop-site.invariant in
    let checks = c.loop-site.checks in
    let one = c.with_site-with_site in
    let now = c.with_price-checks in
    let last = option_map (λ w. w.now) c.loop-site.last in
    let site = c.in-Some.site.now in
    let price = c.in-Some-next.price.now in
    let ps = pairs_of (numbers c.next-in-Some.new.self) in
    let words : c.loop-site.words ≡ site ∷ price ∷ c.next-in-Some.new.self = c.in-Some.ensures.steps ∙ ap (λ ws. site ∷ ws) c.in-Some-next.ensures.steps in
    let are_numbers = first_and_rest is_number site c.next.new.self c.loop-site.words c.in-Some.ensures.steps kept.are_numbers in
    let are_plain = first_and_rest is_plain_number site c.next.new.self c.loop-site.words c.in-Some.ensures.steps kept.are_plain in
    record {
      are_numbers = (first_and_rest is_number price c.next-in-Some.new.self c.next.new.self c.in-Some-next.ensures.steps are_numbers.1).1;
      are_plain = (first_and_rest is_plain_number price c.next-in-Some.new.self c.next.new.self c.in-Some-next.ensures.steps are_plain.1).1;
      last_number = are_numbers.0;
      last_plain = are_plain.0;
      canonical = more-canonical last site price ps checks.canonical one.result.canonical now.result.canonical one.ensures.canonical now.ensures.canonical
          ∙ ap (λ ws. checks.canonical && (is_rising (behind last (map (λ (p : Price). p.0) (pairs_of (numbers ws)))) && list_all (λ (p : Price). not (is_same p.1 0)) (pairs_of (numbers ws)))) (sym words) ∙ kept.canonical;
      in_range = more-in_range I (number_of site) (number_of price) ps checks.in_range one.result.in_range now.result.in_range one.ensures.in_range now.ensures.in_range
          ∙ ap (λ ws. checks.in_range && list_all (is_in_range I) (pairs_of (numbers ws))) (sym words) ∙ kept.in_range;
      known = more-tested (λ (p : Price). is_among (site_ids I) p.0) (number_of site, number_of price) ps checks.known now.result.known (now.ensures.known ∙ one.ensures.known)
          ∙ ap (λ ws. checks.known && list_all (λ (p : Price). is_among (site_ids I) p.0) (pairs_of (numbers ws))) (sym words) ∙ kept.known;
    }
