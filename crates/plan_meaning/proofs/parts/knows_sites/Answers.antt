use Rattle.std.proofs.Common.{Contains, below_more, sym, subst, arith, rules}
use Rattle.std.proofs.lemmas.Bool.{both_ways}
use Rattle.location_terms.specs.Instance.{site_ids}
use Rattle.plan_meaning.proofs.Tested.{all_pass, one_fails}
use Rattle.plan_meaning.proofs.parts.knows_sites.Goals as goal

pub returns-then-is_none : goal.returns-then-is_none
returns-then-is_none c =
    one_fails (Contains (site_ids c.args.inst.now)) c.args.plan.now.sites 0 c.loop-k.k (omega (arith, c.site_count-k-end.ensures.count))
    (λ known. let found = c.site_at.ensures.known.1 (subst (Contains (site_ids c.args.inst.now)) (sym c.site.ensures) known) in both_ways _ c.if-is_none.ensures found)

pub loop-k-preserved : goal.loop-k-preserved
loop-k-preserved c = below_more _ _ c.loop-k.invariant (subst (Contains (site_ids c.args.inst.now)) c.site.ensures (c.site_at.ensures.known.0 (search rules)))

pub returns : goal.returns
returns c = all_pass (Contains (site_ids c.args.inst.now)) c.args.plan.now.sites 0 (λ k within. c.loop-k.invariant k (omega (arith, c.site_count-k-end.ensures.count)))
