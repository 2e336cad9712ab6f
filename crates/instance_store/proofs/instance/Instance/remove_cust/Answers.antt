use Rattle.std.proofs.Common.{List, ap, ◌∙◌}
use Rattle.instance_store.specs.declared.instance.StoredSite.{StoredSite}
use Rattle.instance_store.specs.Columns.{column_in}
use Rattle.instance_store.proofs.NewPlaces.{column-seen}
use Rattle.instance_store.proofs.instance.Instance.remove_cust.Goals as goal

pub returns-clause-lanes : goal.returns-clause-lanes
returns-clause-lanes c =
    c.in_ok-lanes.ensures
    ∙ ap (λ (sites : List StoredSite). column_in sites c.args.cust) c.deref.ensures.value
    ∙ column-seen c.self.inside c.self.invariant c.args.self.now c.self.view_is c.args.cust c.requires.place
