use Rattle.std.proofs.Common.{ap, sym, ◌∙◌}
use Rattle.range_scan.proofs.Scans.{serves_by, uses_as_found}
use Rattle.range_scan.proofs.scanning.uses_lane.Goals as goal

pub returns-in-Some : goal.returns-in-Some
returns-in-Some c =
    c.eq.ensures ∙ ap (serves_by c.args.site) c.in-Some.ensures.exact ∙ sym (uses_as_found c.args.site c.args.cust c.args.plan.now c.server.ensures.plan)

pub returns-in-None : goal.returns-in-None
returns-in-None c =
    ap (serves_by c.args.site) c.in-None.ensures.exact ∙ sym (uses_as_found c.args.site c.args.cust c.args.plan.now c.server.ensures.plan)
