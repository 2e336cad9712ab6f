use Rattle.std.proofs.Common.{refl, sym, ap, ◌∙◌, length, is_some}
use Rattle.std.specs.Prelude.{codes}
use Rattle.std.specs.List.{list_all}
use Rattle.location_terms.specs.declared.limits.TheConstants.{MAX_VALUE}
use Rattle.number_words.specs.Line.{words_of_line}
use Rattle.certificate_lines.specs.Head.{numbers, plain_in}
use Rattle.certificate_lines.specs.Lines.{behind_first, is_of_size, values_said}
use Rattle.certificate_lines.specs.Shape.{just, row}
use Rattle.certificate_lines.proofs.Values.{values_large, values_small}
use Rattle.certificate_lines.proofs.leaf.read_values.Goals as goal

pub returns-in-None : goal.returns-in-None
returns-in-None c =
    c.in-None.ensures.said (row (codes "v") (just (length c.args.inst.now.customers))) (values_said c.args.head.claim c.args.head.path c.args.head.q c.args.head.nu)
    (c.in_ok-row.ensures.plain ∙ ap (λ n. plain_in (row (codes "v") (just n)) (words_of_line c.args.line.now)) c.custs.ensures.count)
    ∙ values_large c.args.head.claim c.args.head.path c.args.head.q c.args.head.nu (numbers (behind_first c.args.line.now)) c.in_ok-row.row.values.items (c.in_ok-row.ensures.values (ap is_some (c.in-None.ensures.fits refl)))
    (ap (list_all (is_of_size MAX_VALUE)) (sym c.deref.ensures.value) ∙ sym c.are_small.ensures ∙ c.if-not-are_small.true)

pub returns-in-None-2 : goal.returns-in-None-2
returns-in-None-2 c =
    c.in-None.ensures.said (row (codes "v") (just (length c.args.inst.now.customers))) (values_said c.args.head.claim c.args.head.path c.args.head.q c.args.head.nu)
    (c.in_ok-row.ensures.plain ∙ ap (λ n. plain_in (row (codes "v") (just n)) (words_of_line c.args.line.now)) c.custs.ensures.count)
    ∙ values_small c.args.head.claim c.args.head.path c.args.head.q c.args.head.nu (numbers (behind_first c.args.line.now)) c.in_ok-row.row.values.items (c.in_ok-row.ensures.values (ap is_some (c.in-None.ensures.fits refl)))
    (ap (list_all (is_of_size MAX_VALUE)) (sym c.deref.ensures.value) ∙ sym c.are_small.ensures ∙ c.if-not-are_small.false)
