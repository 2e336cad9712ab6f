use Rattle.std.proofs.Common.{◌^◌, ◌++◌, min, ap, ◌∙◌}
use Rattle.std.specs.Str.Parse.{digits_value, digits_value_after}
use Rattle.number_words.specs.Cost.{units_of}
use Rattle.number_words.proofs.Values.{capped-append}
use Rattle.number_words.proofs.cost_word.cost.Goals as goal

pub returns : goal.returns
returns c =
    let word = c.args.word.now in
    c.push_wide_digits-2.ensures ∙ ap (λ n. min (digits_value_after 10 n c.parts.result.1.now) (10 ^ 30)) c.push_wide_digits.ensures
    ∙ capped-append (10 ^ 30) c.parts.result.0.now c.parts.result.1.now 0
    ∙ ap (λ ds. min (digits_value 10 (ds ++ c.parts.result.1.now)) (10 ^ 30)) c.parts.ensures.units
    ∙ ap (λ ds. min (digits_value 10 (units_of word ++ ds)) (10 ^ 30)) c.parts.ensures.decimals
