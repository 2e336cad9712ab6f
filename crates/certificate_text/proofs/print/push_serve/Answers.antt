use Rattle.std.proofs.Common.{arith, ap, map}
use Rattle.std.proofs.lemmas.List.{take_all}
use Rattle.certificate_text.proofs.Rows.{counts_added}
use Rattle.certificate_text.proofs.print.push_serve.Goals as goal

pub returns : goal.returns
returns c =
    counts_added c.extend_from_slice-2.result _ _ _ c.extend_from_slice-2.ensures.items _ _ c.loop-k.invariant (ap (map (λ v. v.1)) (take_all c.loop-k.k c.args.plan.now.serves (omega (arith, c.serve_count-k-end.ensures.count))))
