use Rattle.std.proofs.Common.{arith}
use Rattle.std.proofs.lemmas.List.{take_all}
use Rattle.certificate_text.proofs.Rows.{counts_added}
use Rattle.certificate_text.proofs.print.push_open.Goals as goal

pub returns : goal.returns
returns c =
    counts_added c.extend_from_slice-2.result _ _ _ c.extend_from_slice-2.ensures.items _ _ c.loop-k.invariant (take_all c.loop-k.k c.args.plan.now.sites (omega (arith, c.site_count-k-end.ensures.count)))
