use Rattle.std.proofs.Common.{◌∙◌, ap, arith, codes}
use Rattle.location_terms.specs.Box.{Path}
use Rattle.location_terms.specs.Bound.{slack_of}
use Rattle.report.specs.DualsText.{slack_line}
use Rattle.report.proofs.Lines.{lines_more, same_line}
use Rattle.report.proofs.duals.push_slacks.Goals as goal

pub loop-site-preserved : goal.loop-site-preserved
loop-site-preserved c =
    lines_more (slack_line c.args.inst.now c.args.duals.now) _ _ _ _ c.loop-site.site c.loop-site.invariant c.in_ok-push_line.ensures
    (same_line (codes "site ") _ _ _ _ (c.number-id.ensures ∙ c.site_id.ensures)
    (c.slack.ensures.exact ∙ ap (λ (path : Path). slack_of c.args.inst.now path c.args.duals.now c.loop-site.site) (c.deref.ensures ∙ c.requires.root)) (c.requires.printable.slacks c.loop-site.site (omega (arith, c.sites-site-end.ensures.count))))
