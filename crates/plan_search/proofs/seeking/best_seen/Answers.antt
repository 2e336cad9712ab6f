use Rattle.std.proofs.Common.{IfOk, subst}
use Rattle.dual_value.specs.Prepared.{Prepared}
use Rattle.plan_search.specs.InBox.{HasNoCaps, SettlesSites, IsNoWorse, IsBestIn}
use Rattle.plan_search.specs.Packed.{packed}
use Rattle.plan_search.proofs.seeking.best_seen.Goals as goal

pub returns-clause-packed : goal.returns-clause-packed
returns-clause-packed c = subst (λ (b : Prepared). IfOk c.best_in.result (λ plan. IsNoWorse b.instance plan (packed b.instance b.path c.args.hint.now))) c.in_ok-boxed.ensures c.best_in.ensures.packed

pub returns-clause-cheapest : goal.returns-clause-cheapest
returns-clause-cheapest c = subst (λ (b : Prepared). HasNoCaps b.instance → SettlesSites b.instance b.path → IfOk c.best_in.result (IsBestIn b.instance b.path)) c.in_ok-boxed.ensures c.best_in.ensures.cheapest
