use Rattle.std.proofs.Common.{arith, ap, map}
use Rattle.std.specs.Prelude.{filter}
use Rattle.std.proofs.lemmas.List.{take_all}
use Rattle.certificate_lines.specs.Text.{is_status}
use Rattle.certificate_text.proofs.Rows.{counts_added}
use Rattle.certificate_text.proofs.print.push_status.Goals as goal

pub returns : goal.returns
returns c =
    counts_added c.extend_from_slice-2.result _ _ _ c.extend_from_slice-2.ensures.items _ _ c.loop-i.invariant
    (ap (λ sites. map (λ s. s.id) (filter (λ s. is_status c.args.status s.status) sites)) (take_all c.loop-i.i c.args.inst.now.sites (omega (arith, c.sites-i-end.ensures.count))))
