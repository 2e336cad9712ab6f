use Rattle.std.proofs.Common.{◌≡◌, ap, sym, ◌∙◌}
use Rattle.location_terms.specs.Instance.{lane, site_at, customer_at}
use Rattle.plan_meaning.specs.Plan.{serve_at}
use Rattle.plan_meaning.proofs.Served.{customer_served}
use Rattle.plan_meaning.proofs.amounts.lane_used.Goals as goal

pub returns-in-Some-clause-exact : goal.returns-in-Some-clause-exact
returns-in-Some-clause-exact c =
    let I = c.args.inst.now in
    let customer = sym (customer_served I c.args.plan.now c.requires.once c.args.k c.requires.place) in
    let site : (site_at I c.in-Some.i).id ≡ (serve_at c.args.plan.now c.args.k).1 = c.in-Some.ensures.found.1 ∙ ap (λ v. v.1) c.serve-site.ensures in
    c.lane.ensures.exact ∙ ap (λ s. lane I s (customer_at I c.args.k).id) site ∙ ap (lane I (serve_at c.args.plan.now c.args.k).1) customer
