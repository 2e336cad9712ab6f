use Rattle.std.proofs.Common.{length, take, get_or, sym, ap, ◌∙◌, arith}
use Rattle.location_terms.specs.declared.status.SiteStatus.TheVariants.{Free}
use Rattle.location_terms.specs.Instance.{Instance, site_at}
use Rattle.instance_store.specs.Changes.{with_status}
use Rattle.instance_text.proofs.Settling.{settled_none, settled_more, length-with_statuses}
use Rattle.instance_text.proofs.reading.settle.Goals as goal

pub loop-i-init : goal.loop-i-init
loop-i-init c = sym (settled_none c.args.inst.now)

pub set_status-requires : goal.set_status-requires
set_status-requires c =
    omega (arith, ap (λ (I : Instance). length I.sites) c.loop-i.invariant, length-with_statuses c.args.inst.now.sites (take c.loop-i.i c.args.statuses.now), c.requires)

pub loop-i-preserved : goal.loop-i-preserved
loop-i-preserved c =
    let statuses = c.args.statuses.now in
    let i = c.loop-i.i in
    c.set_status.ensures ∙ ap (λ (I : Instance). with_status I (site_at I i).id (get_or statuses i Free)) c.loop-i.invariant ∙ settled_more c.args.inst.now statuses i Free c.sites-count.ensures.valid c.loop-i-test.true c.requires
