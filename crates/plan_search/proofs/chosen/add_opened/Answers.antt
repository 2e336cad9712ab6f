use Rattle.std.proofs.Common.{ℕ, Bool, sym, ◌∙◌, inl, inr, arith}
use Rattle.location_terms.specs.Instance.{site_at}
use Rattle.location_terms.specs.Box.{is_opened}
use Rattle.plan_search.proofs.Flagging.{flags_more}
use Rattle.plan_search.proofs.chosen.add_opened.Goals as goal
use Rattle.plan_search.proofs.chosen.add_opened.Goals.{then-is_opened, else-is_opened}

pub loop-site-preserved : goal.loop-site-preserved
loop-site-preserved c =
    let opened : ℕ → Bool = λ i. is_opened c.args.boxed.now.path (site_at c.args.boxed.now.instance i) in
    let parts =
    flags_more opened c.args.flags.now c.loop-site.flags c.if-is_opened.flags c.loop-site.site c.loop-site.invariant.long c.loop-site.invariant.each c.loop-site.invariant.rest (omega (arith, c.loop-site-test.true, c.loop-site.auto.flags))
    (elim c.if-is_opened.branch [
      | then-is_opened w ↦ inl (sym c.is_opened.ensures ∙ w.if-is_opened.true, w.flags-is)
      | else-is_opened w ↦ inr (sym c.is_opened.ensures ∙ w.if-is_opened.false, w.flags-is)
    ]) in
    record { long = parts.0; each = parts.1; rest = parts.2 }
