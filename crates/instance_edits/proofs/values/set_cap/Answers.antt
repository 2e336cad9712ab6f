use Rattle.std.proofs.Common.{sym, ap, ◌∙◌}
use Rattle.instance_store.specs.Changes.{with_cap}
use Rattle.instance_edits.specs.declared.edit.Inverse.TheVariants.{FormerCap}
use Rattle.instance_edits.proofs.Restored.{site_named-at}
use Rattle.instance_edits.proofs.values.set_cap.Goals as goal

pub returns : goal.returns
returns c = record {
  changed = c.set_cap.ensures ∙ ap (λ id. with_cap c.args.inst.now id c.args.cap) c.place_of_site-place.ensures.id;
  inverse = ap (FormerCap c.args.site) (c.cap-former.ensures.exact ∙ sym (ap (λ x. x.cap) (site_named-at c.args.inst.now c.requires.valid c.args.site _ c.place_of_site-place.ensures.within c.place_of_site-place.ensures.id)));
}
