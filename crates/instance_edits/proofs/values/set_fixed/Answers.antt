use Rattle.std.proofs.Common.{sym, ap, ◌∙◌}
use Rattle.instance_store.specs.Changes.{with_fixed}
use Rattle.instance_edits.specs.declared.edit.Inverse.TheVariants.{FormerFixed}
use Rattle.instance_edits.proofs.Restored.{fixed_of-at}
use Rattle.instance_edits.proofs.values.set_fixed.Goals as goal

pub returns : goal.returns
returns c = record {
  changed = c.set_fixed.ensures ∙ ap (λ id. with_fixed c.args.inst.now id c.args.cost) c.place_of_site-place.ensures.id;
  inverse = ap (FormerFixed c.args.site) (c.fixed-former.ensures.exact ∙ sym (fixed_of-at c.args.inst.now c.requires.valid c.args.site _ c.place_of_site-place.ensures.within c.place_of_site-place.ensures.id));
}
