use Rattle.std.proofs.Common.{Contains, below_more, sym, subst, arith, rules}
use Rattle.plan_meaning.proofs.Tested.{all_pass, one_fails}
use Rattle.plan_meaning.proofs.parts.serves_from_open.Goals as goal

pub returns-then-not-opens : goal.returns-then-not-opens
returns-then-not-opens c =
    one_fails (λ v. Contains c.args.plan.now.sites v.1) c.args.plan.now.serves (0, 0) c.loop-k.k (omega (arith, c.serve_count-k-end.ensures.count))
    (λ is_open. let found = c.opens.ensures.1 (subst (λ v. Contains c.args.plan.now.sites v.1) (sym c.serve-site.ensures) is_open) in cc)

pub loop-k-preserved : goal.loop-k-preserved
loop-k-preserved c = below_more _ _ c.loop-k.invariant (subst (λ v. Contains c.args.plan.now.sites v.1) c.serve-site.ensures (c.opens.ensures.0 (search rules)))

pub returns : goal.returns
returns c = all_pass (λ v. Contains c.args.plan.now.sites v.1) c.args.plan.now.serves (0, 0) (λ k within. c.loop-k.invariant k (omega (arith, c.serve_count-k-end.ensures.count)))
