use Rattle.std.proofs.Common.{◌∙◌}
use Rattle.location_terms.specs.Instance.{site_at}
use Rattle.instance_text.proofs.Lines.{on_ok, site_is}
use Rattle.instance_text.proofs.writing.push_site.Goals as goal

pub returns : goal.returns
returns c =
    on_ok c.end_line.result
    (λ last. site_is c.args.inst.now (site_at c.args.inst.now c.args.i) c.args.text.now.items c.push_id.new.text.items c.push_amount.new.text.items c.push_amount-2.new.text.items c.push_status.new.text.items c.push_lanes.new.text.items c.end_line.new.text.items c.args.unsettled c.number.result c.fixed.result c.cap.result c.status.result c.lanes.result.now c.requires.version (c.number.ensures ∙ c.site_id.ensures) c.fixed.ensures.exact c.cap.ensures.exact c.status.ensures c.lanes.ensures.exact c.in_ok-push_id.ensures c.in_ok-push_amount.ensures c.in_ok-push_amount-2.ensures c.in_ok-push_status.ensures c.in_ok-push_lanes.ensures last)
    c.end_line.ensures
