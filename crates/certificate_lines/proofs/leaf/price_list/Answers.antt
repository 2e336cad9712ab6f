use Rattle.std.proofs.Common.{◌≡◌, rules, true, [], ◌∷◌, length, length-set, map, replicate, sym, ap, ◌∙◌}
use Rattle.std.specs.Prelude.{slice_set, unsigned_abs}
use Rattle.std.specs.List.{list_all}
use Rattle.std.proofs.lemmas.Bool.{and_parts}
use Rattle.std.proofs.lemmas.List.{length-replicate}
use Rattle.location_terms.specs.declared.limits.TheConstants.{MAX_MULTIPLIER}
use Rattle.location_terms.specs.Instance.{site_ids}
use Rattle.location_terms.proofs.Places.{length-site_ids}
use Rattle.number_words.specs.Number.{is_number, number_of, is_rising}
use Rattle.certificate_lines.specs.Head.{numbers}
use Rattle.certificate_lines.specs.Lines.{Price, is_among, is_up_to, is_in_range, pairs_of, price_in}
use Rattle.certificate_lines.proofs.Walks.{first_and_rest}
use Rattle.certificate_lines.proofs.PricesSet.{prices_set, set-zeros, set-none, set-next, some-if, rising_rest}
use Rattle.certificate_lines.proofs.leaf.price_list.Goals as goal

pub loop-site-init : goal.loop-site-init
loop-site-init c =
    let I = c.args.inst.now in
    let zeros : c.in_ok-list.list.items ≡ replicate c.sites.result 0 = search rules in
    let count : c.sites.result ≡ length (site_ids I) = c.sites.ensures.count ∙ sym (length-site_ids I) in
    let words = c.behind_first-words.ensures in
    let ps = pairs_of (numbers c.behind_first-words.result) in
    record {
      are_numbers = ap (list_all is_number) words ∙ c.requires.numbers;
      rising = ap (λ ws. is_rising (map (λ p. p.0) (pairs_of (numbers ws)))) words ∙ c.requires.rising;
      in_range = ap (λ ws. list_all (is_in_range I) (pairs_of (numbers ws))) words ∙ c.requires.in_range;
      known = ap (λ ws. list_all (λ p. is_among (site_ids I) p.0) (pairs_of (numbers ws))) words ∙ c.requires.known;
      each = ap length zeros ∙ length-replicate c.sites.result 0 ∙ c.sites.ensures.count;
      whole = ap (prices_set ps (site_ids I)) (zeros ∙ ap (λ n. replicate n 0) count) ∙ set-zeros ps (site_ids I)
          ∙ ap (λ ws. map (price_in (pairs_of (numbers ws))) (site_ids I)) words;
    }

pub price_in-requires : goal.price_in-requires
price_in-requires c =
    let rest = first_and_rest is_number c.in-Some.site.now c.next.new.self c.loop-site.words c.in-Some.ensures.steps c.loop-site.invariant.are_numbers in
    (first_and_rest is_number c.in-Some-next.price.now c.next-in-Some.new.self c.next.new.self c.in-Some-next.ensures.steps rest.1).0

pub returns-in_default-next : goal.returns-in_default-next
returns-in_default-next c =
    let ids = site_ids c.args.inst.now in
    let us = c.loop-site.list.items in
    let one : c.loop-site.words ≡ c.in-Some.site.now ∷ [] = c.in-Some.ensures.steps ∙ ap (λ ws. c.in-Some.site.now ∷ ws) c.in_default-next.ensures.steps.0 in
    sym (set-none ids us (c.loop-site.invariant.each ∙ sym (length-site_ids c.args.inst.now)))
    ∙ ap (λ ws. prices_set (pairs_of (numbers ws)) ids us) (sym one)
    ∙ c.loop-site.invariant.whole

pub loop-site-preserved : goal.loop-site-preserved
loop-site-preserved c =
    let I = c.args.inst.now in
    let kept = c.loop-site.invariant in
    let us = c.loop-site.list.items in
    let place = c.unwrap-place.result in
    let z = number_of c.in-Some.site.now in
    let p = number_of c.in-Some-next.price.now in
    let ps = pairs_of (numbers c.next-in-Some.new.self) in
    let words : c.loop-site.words ≡ c.in-Some.site.now ∷ c.in-Some-next.price.now ∷ c.next-in-Some.new.self = c.in-Some.ensures.steps ∙ ap (λ ws. c.in-Some.site.now ∷ ws) c.in-Some-next.ensures.steps in
    let rest = first_and_rest is_number c.in-Some.site.now c.next.new.self c.loop-site.words c.in-Some.ensures.steps kept.are_numbers in
    let up : is_rising (z ∷ map (λ (q : Price). q.0) ps) ≡ true = ap (λ ws. is_rising (map (λ (q : Price). q.0) (pairs_of (numbers ws)))) (sym words) ∙ kept.rising in
    let found = rw c.unwrap-place.ensures at c.place_in.ensures.found in
    let value = some-if (is_up_to MAX_MULTIPLIER p) (unsigned_abs p) c.unwrap.result (sym c.unwrap.ensures ∙ c.price_in.ensures) in
    record {
      are_numbers = (first_and_rest is_number c.in-Some-next.price.now c.next-in-Some.new.self c.next.new.self c.in-Some-next.ensures.steps rest.1).1;
      rising = rising_rest z (map (λ (q : Price). q.0) ps) up;
      in_range = (and_parts (is_in_range I (z, p)) (list_all (is_in_range I) ps) (ap (λ ws. list_all (is_in_range I) (pairs_of (numbers ws))) (sym words) ∙ kept.in_range)).1;
      known = (and_parts (is_among (site_ids I) z) (list_all (λ (q : Price). is_among (site_ids I) q.0) ps) (ap (λ ws. list_all (λ (q : Price). is_among (site_ids I) q.0) (pairs_of (numbers ws))) (sym words) ∙ kept.known)).1;
      each = length-set us place c.unwrap.result ∙ kept.each;
      whole = ap (λ k. prices_set ps (site_ids I) (slice_set us place k)) (sym value)
          ∙ set-next I z p ps us place c.sites.ensures.valid up kept.each found.0 found.1
          ∙ ap (λ ws. prices_set (pairs_of (numbers ws)) (site_ids I) us) (sym words)
          ∙ kept.whole;
    }

pub returns : goal.returns
returns c =
    let ids = site_ids c.args.inst.now in
    let us = c.loop-site.list.items in
    sym (set-none ids us (c.loop-site.invariant.each ∙ sym (length-site_ids c.args.inst.now)))
    ∙ ap (λ ws. prices_set (pairs_of (numbers ws)) ids us) (sym c.in_default.ensures.steps.0)
    ∙ c.loop-site.invariant.whole
