use Rattle.std.proofs.Common.{sym, ap, ◌∙◌}
use Rattle.instance_store.specs.Changes.{with_demand}
use Rattle.instance_edits.specs.declared.edit.Inverse.TheVariants.{FormerDemand}
use Rattle.instance_edits.proofs.Restored.{demand_of-at}
use Rattle.instance_edits.proofs.values.set_demand.Goals as goal

pub returns : goal.returns
returns c = record {
  changed = c.set_demand.ensures ∙ ap (λ id. with_demand c.args.inst.now id c.args.demand) c.place_of_cust-place.ensures.id;
  inverse = ap (FormerDemand c.args.cust) (c.demand-former.ensures.exact ∙ sym (demand_of-at c.args.inst.now c.requires.valid c.args.cust _ c.place_of_cust-place.ensures.within c.place_of_cust-place.ensures.id));
}
