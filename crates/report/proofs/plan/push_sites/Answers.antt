use Rattle.std.proofs.Common.{subst, sym, arith}
use Rattle.std.specs.Prelude.{Contains}
use Rattle.location_terms.specs.Instance.{site_ids}
use Rattle.report.proofs.plan.push_sites.Goals as goal

pub fixed_cost-requires-clause-known : goal.fixed_cost-requires-clause-known
fixed_cost-requires-clause-known c = subst (Contains (site_ids c.args.inst.now)) (sym c.site-site.ensures) (c.requires.sites_known c.loop-k.k 0 (omega (arith, c.site_count-k-end.ensures.count)))
