use Rattle.std.proofs.Common.{◌≡◌, ◌/◌, ◌%◌, ◌++◌, ap, ◌∙◌, append_assoc, rules}
use Rattle.number_words.specs.Cost.{micro_text, decimals_text}
use Rattle.number_words.specs.Number.{digits_text}
use Rattle.fixed_cost.proofs.Printed.{amount_of-micro_text}
use Rattle.fixed_cost.proofs.print.push_micro.Goals as goal

pub returns-clause-written : goal.returns-clause-written
unfolding micro_text
returns-clause-written c =
    let old = c.args.text.now.items in
    let n = c.args.micro in
    let printed : c.push_count.new.text.items ++ c.decimals.result ≡ old ++ micro_text n =
    ap (λ ds. c.push_count.new.text.items ++ ds) c.decimals.ensures ∙ ap (λ xs. xs ++ decimals_text (n % 1000000)) c.in_ok-push_count.ensures ∙ append_assoc old (digits_text (n / 1000000)) (decimals_text (n % 1000000)) in
    search rules

pub returns-clause-read_back : goal.returns-clause-read_back
returns-clause-read_back c = amount_of-micro_text c.args.micro

pub returns-in_err-push_count-clause-read_back : goal.returns-in_err-push_count-clause-read_back
returns-in_err-push_count-clause-read_back c = amount_of-micro_text c.args.micro
