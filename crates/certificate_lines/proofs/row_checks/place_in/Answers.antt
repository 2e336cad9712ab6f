use Rattle.std.proofs.Common.{ap, ◌∙◌, ◌==◌, is_some, position, sym}
use Rattle.location_terms.specs.Instance.{site_ids}
use Rattle.number_words.specs.Number.{number_of}
use Rattle.certificate_lines.proofs.Places.{not_an_id}
use Rattle.certificate_lines.proofs.Places.{is_among-place}
use Rattle.certificate_lines.proofs.row_checks.place_in.Goals as goal

pub returns-in-Some-clause-known : goal.returns-in-Some-clause-known
returns-in-Some-clause-known c =
    ap is_some c.site_at.ensures.exact ∙ ap (λ id. is_some (position (λ x. x == id) (site_ids c.args.inst.now))) c.new.ensures
    ∙ is_among-place (site_ids c.args.inst.now) (number_of c.args.word.now) c.in-Some.id c.in-Some.ensures

pub returns-in-None-clause-known : goal.returns-in-None-clause-known
returns-in-None-clause-known c = sym (not_an_id c.args.inst.now (number_of c.args.word.now) c.sites-valid.ensures.valid c.in-None.ensures)
