use Rattle.std.proofs.Common.{◌≡◌, rules, ap, ◌∙◌, sym}
use Rattle.std.specs.Prelude.{is_none}
use Rattle.number_words.specs.Number.{number_of}
use Rattle.certificate_lines.proofs.Places.{unknown-lacks, lacks_cap-at}
use Rattle.certificate_lines.proofs.row_checks.lacks_cap.Goals as goal

pub returns-in-Some : goal.returns-in-Some
returns-in-Some c =
    let none : c.is_none.result ≡ is_none c.cap.result = search rules in
    none ∙ ap is_none c.cap.ensures.exact
    ∙ sym (lacks_cap-at c.args.inst.now c.in-Some.place (number_of c.args.word.now) c.sites-valid.ensures.valid c.in-Some.ensures.found.0 c.in-Some.ensures.found.1)

pub returns-in-None : goal.returns-in-None
returns-in-None c = sym (unknown-lacks (number_of c.args.word.now) c.args.inst.now.sites (sym c.in-None.ensures.known))
