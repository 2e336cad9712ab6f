use Rattle.std.proofs.Common.{sym, ap, ◌∙◌}
use Rattle.instance_store.specs.Changes.{with_status}
use Rattle.instance_edits.specs.declared.edit.Inverse.TheVariants.{FormerStatus}
use Rattle.instance_edits.proofs.Restored.{site_named-at}
use Rattle.instance_edits.proofs.values.set_status.Goals as goal

pub returns : goal.returns
returns c = record {
  changed = c.set_status.ensures ∙ ap (λ id. with_status c.args.inst.now id c.args.status) c.place_of_site-place.ensures.id;
  inverse = ap (FormerStatus c.args.site) (c.status-former.ensures ∙ sym (ap (λ x. x.status) (site_named-at c.args.inst.now c.requires.valid c.args.site _ c.place_of_site-place.ensures.within c.place_of_site-place.ensures.id)));
}
