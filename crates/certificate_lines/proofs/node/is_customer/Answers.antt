use Rattle.std.proofs.Common.{ap, ◌∙◌, ◌==◌, is_some, position}
use Rattle.location_terms.specs.Instance.{customer_ids}
use Rattle.number_words.specs.Number.{number_of}
use Rattle.certificate_lines.proofs.Places.{is_among-place}
use Rattle.certificate_lines.proofs.node.is_customer.Goals as goal

pub returns-in-Some : goal.returns-in-Some
returns-in-Some c =
    let place = is_among-place (customer_ids c.args.inst.now) (number_of c.args.word.now) c.in-Some.id c.in-Some.ensures in
    c.is_some.ensures ∙ ap is_some c.cust_at.ensures.exact ∙ ap (λ id. is_some (position (λ x. x == id) (customer_ids c.args.inst.now))) c.new.ensures ∙ place
