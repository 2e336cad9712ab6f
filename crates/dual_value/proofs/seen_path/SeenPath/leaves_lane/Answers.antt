use Rattle.std.proofs.Common.{Bool, not, ◌&&◌, ap, ◌∙◌}
use Rattle.location_terms.specs.Instance.{site_at, customer_at}
use Rattle.location_terms.specs.Box.{holds_demand}
use Rattle.dual_value.proofs.seen_path.SeenPath.leaves_lane.Goals as goal

pub returns : goal.returns
returns c =
    let s = site_at c.args.inst.now c.args.site in
    let d = customer_at c.args.inst.now c.args.cust in
    c.is_unbarred.ensures ∙ ap (λ (b : Bool). not b && holds_demand s.cap d.demand) (c.requires.seen.barring s.id d.id)
