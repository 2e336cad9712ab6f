use Rattle.std.proofs.Common.{◌&&◌, not, map, sym, ap, ◌∙◌}
use Rattle.std.specs.List.{list_all}
use Rattle.std.proofs.lemmas.Bool.{and_parts}
use Rattle.number_words.specs.Number.{is_rising}
use Rattle.certificate_lines.specs.Head.{numbers}
use Rattle.certificate_lines.specs.Lines.{Price, is_same, pairs_of, behind_first}
use Rattle.certificate_lines.proofs.leaf.prices_fault.Goals as goal

pub returns-in-None-clause-rising : goal.returns-in-None-clause-rising
returns-in-None-clause-rising c = λ none.
    let ps = pairs_of (numbers (behind_first c.args.line.now)) in
    (and_parts (is_rising (map (λ (p : Price). p.0) ps)) (list_all (λ (p : Price). not (is_same p.1 0)) ps)
    (sym (c.prices_checked.ensures.canonical ∙ ap (λ ws. is_rising (map (λ (p : Price). p.0) (pairs_of (numbers ws))) && list_all (λ (p : Price). not (is_same p.1 0)) (pairs_of (numbers ws))) c.behind_first.ensures) ∙ c.fault_of.ensures.canonical none)).0
