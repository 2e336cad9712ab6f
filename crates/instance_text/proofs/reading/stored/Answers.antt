use Rattle.std.proofs.Common.{◌≡◌, map, ap, ◌∙◌}
use Rattle.location_terms.specs.declared.status.SiteStatus.{SiteStatus}
use Rattle.location_terms.specs.Instance.{Instance}
use Rattle.instance_store.specs.declared.rows.SiteRow.{SiteRow}
use Rattle.instance_store.specs.Parts.{instance_of}
use Rattle.instance_text.specs.Settled.{with_own_statuses}
use Rattle.instance_text.proofs.Settling.{settled_is_own}
use Rattle.instance_text.proofs.reading.stored.Goals as goal

pub returns-clause-instance : goal.returns-clause-instance
returns-clause-instance c =
    let made = instance_of c.args.count.0 c.args.count.1 c.args.next.0 c.args.next.1 c.args.custs.items in
    let statuses : c.deref-2.result.now ≡ map (λ s. s.1) c.args.sites.items = c.deref-2.ensures.value ∙ c.in_ok-statuses.ensures ∙ ap (map (λ (s : SiteRow × SiteStatus). s.1)) c.deref.ensures.value in
    c.settle.ensures.settled
    ∙ ap (λ (I : Instance). with_own_statuses I c.deref-2.result.now) (c.in_ok-inst.ensures ∙ ap made c.in_ok-rows.ensures)
    ∙ ap (with_own_statuses (made (map (λ (s : SiteRow × SiteStatus). s.0) c.args.sites.items))) statuses
    ∙ settled_is_own c.args.count c.args.next.0 c.args.next.1 c.args.custs.items c.args.sites.items
