use Rattle.std.proofs.Common.{sym, ap, ◌∙◌}
use Rattle.instance_store.specs.Changes.{column_of}
use Rattle.instance_edits.specs.declared.edit.Inverse.TheVariants.{DroppedCust}
use Rattle.instance_edits.proofs.Restored.{place_among-customer, demand_of-at}
use Rattle.instance_edits.proofs.comings.drop_cust.Goals as goal

pub returns-clause-inverse : goal.returns-clause-inverse
returns-clause-inverse c =
    let I = c.args.inst.now in
    let at = c.place_of_cust-place.ensures in
    let place = place_among-customer I c.requires.valid c.args.cust c.place_of_cust-place.result at.within at.id in
    let demand = demand_of-at I c.requires.valid c.args.cust c.place_of_cust-place.result at.within at.id in
    let row = c.in_ok-row.ensures.row ∙ (λ k. record { id = at.id k; demand = sym demand k }) in
    let lanes = c.in_ok-row.ensures.lanes ∙ ap (column_of I) at.id in
    λ k. DroppedCust (sym place k) (row k) (lanes k)
