use Rattle.std.proofs.Common.{◌∙◌}
use Rattle.location_terms.specs.Instance.{lane}
use Rattle.instance_store.specs.Changes.{with_lane_cost}
use Rattle.instance_edits.specs.declared.edit.Inverse.TheVariants.{FormerLane}
use Rattle.instance_edits.proofs.values.set_lane.Goals as goal

pub returns : goal.returns
returns c = record {
  changed = c.set_lane.ensures ∙ (λ k. with_lane_cost c.args.inst.now (c.place_of_site-from.ensures.id k) (c.place_of_cust-to.ensures.id k) c.args.cost);
  inverse = λ k. FormerLane c.args.site c.args.cust ((c.lane-former.ensures.exact ∙ (λ i. lane c.args.inst.now (c.place_of_site-from.ensures.id i) (c.place_of_cust-to.ensures.id i))) k);
}
