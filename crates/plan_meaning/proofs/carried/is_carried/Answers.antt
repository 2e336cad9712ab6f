use Rattle.std.proofs.Common.{sym, ◌∙◌, subst}
use Rattle.std.specs.Prelude.{IsTrue, Contains, ◌↔◌}
use Rattle.location_terms.specs.Instance.{site_at}
use Rattle.plan_meaning.proofs.Carrying.{listed_is, free_carried}
use Rattle.plan_meaning.proofs.carried.is_carried.Goals as goal

pub returns-in-Free : goal.returns-in-Free
returns-in-Free c =
    let x = site_at c.args.inst.now c.args.i in
    let says : IsTrue c.opens.result ↔ Contains c.args.plan.now.sites x.id = subst (λ s. IsTrue c.opens.result ↔ Contains c.args.plan.now.sites s) c.site_id.ensures c.opens.ensures in
    listed_is c.args.plan.now.sites x.id c.opens.result says ∙ free_carried c.args.plan.now x (sym c.status.ensures ∙ c.in-Free.is)
