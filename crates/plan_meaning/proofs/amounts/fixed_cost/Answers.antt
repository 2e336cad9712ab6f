use Rattle.std.proofs.Common.{ap, sym, ◌∙◌}
use Rattle.location_terms.specs.Instance.{fixed_of}
use Rattle.location_terms.proofs.Places.{fixed_of-site_at}
use Rattle.plan_meaning.proofs.amounts.fixed_cost.Goals as goal

pub returns-clause-exact : goal.returns-clause-exact
returns-clause-exact c =
    let found = rw c.unwrap-i.ensures at c.site_at.ensures.found in
    c.fixed.ensures.exact ∙ sym (fixed_of-site_at c.args.inst.now c.unwrap-i.result c.requires.valid.sites_named.rising found.0) ∙ ap (fixed_of c.args.inst.now) found.1
