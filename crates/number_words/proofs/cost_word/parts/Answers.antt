use Rattle.std.proofs.Common.{◌+◌, length, take, drop, sym, ap, ◌∙◌, arith, rules, take_all}
use Rattle.std.proofs.lemmas.List.{take_rest, drop_all}
use Rattle.std.proofs.lemmas.List.Sums.{position_or_len_is}
use Rattle.number_words.specs.Cost.{is_point}
use Rattle.number_words.proofs.cost_word.parts.Goals as goal

pub returns-in-Some-clause-units : goal.returns-in-Some-clause-units
returns-in-Some-clause-units c =
    let word = c.args.word.now in
    let found = position_or_len_is is_point word c.in-Some.i 0 (search rules) (search rules) (search rules) in
    ap (λ n. take n word) (sym found)

pub returns-in-Some-clause-decimals : goal.returns-in-Some-clause-decimals
returns-in-Some-clause-decimals c =
    let word = c.args.word.now in
    let found = position_or_len_is is_point word c.in-Some.i 0 (search rules) (search rules) (search rules) in
    take_rest word (c.in-Some.i + 1) ∙ ap (λ n. drop (n + 1) word) (sym found)

pub returns-in-None-clause-units : goal.returns-in-None-clause-units
returns-in-None-clause-units c =
    let word = c.args.word.now in
    let none = position_or_len_is is_point word (length word) 0 (omega arith) (search rules) (search rules) in
    sym (ap (λ n. take n word) none ∙ take_all (length word) word (omega arith))

pub returns-in-None-clause-decimals : goal.returns-in-None-clause-decimals
returns-in-None-clause-decimals c =
    let word = c.args.word.now in
    let none = position_or_len_is is_point word (length word) 0 (omega arith) (search rules) (search rules) in
    sym (ap (λ n. drop (n + 1) word) none ∙ drop_all (length word + 1) word (omega arith))
