use Rattle.std.proofs.Common.{◌≡◌, ap, ◌∙◌, arith}
use mir.Syntax.{w128}
use Rattle.std.specs.Int.{int_max}
use Rattle.std.proofs.lemmas.Int.{to_z-of_z}
use Rattle.location_terms.specs.Instance.{Instance, site_at}
use Rattle.binary_knapsack.specs.Knapsack.{best_worth}
use Rattle.dual_value.proofs.Sizes.{kept}
use Rattle.leaf_bounds.proofs.Gathered.{best_found, best_set_is_some}
use Rattle.leaf_bounds.proofs.Slacks.{best_small}
use Rattle.leaf_bounds.proofs.whole.best_set.Goals as goal

pub returns-in_err-gather-clause-some : goal.returns-in_err-gather-clause-some
returns-in_err-gather-clause-some c = best_set_is_some c.args.boxed.now.instance c.args.boxed.now.path c.args.duals.now c.args.site

pub returns-in_err-best-clause-some : goal.returns-in_err-best-clause-some
returns-in_err-best-clause-some c = best_set_is_some c.args.boxed.now.instance c.args.boxed.now.path c.args.duals.now c.args.site

pub returns-clause-exact : goal.returns-clause-exact
returns-clause-exact c =
    let I : Instance = c.args.boxed.now.instance in
    let best = c.in_ok-best.best in
    let at : c.cap-cap.result ≡ (site_at I c.args.site).cap = c.cap-cap.ensures.exact ∙ ap (λ (J : Instance). (site_at J c.args.site).cap) c.instance.ensures in
    let found : best ≡ int_max c.args.least (best_worth c.cap-cap.result c.deref.result.now) = rw (to_z-of_z w128 c.args.least c.ranges.least) at c.in_ok-best.ensures.exact in
    kept best 1000000000000000000000000000000000 (best_small best c.in_ok-best.ensures.low c.in_ok-best.ensures.high) (omega arith)
    ∙ best_found I c.args.boxed.now.path c.args.duals.now c.args.site c.cap-cap.result c.gather.new.items.items c.deref.result.now c.args.least best at c.deref.ensures.value c.in_ok-gather.ensures.exact found

pub returns-clause-some : goal.returns-clause-some
returns-clause-some c = best_set_is_some c.args.boxed.now.instance c.args.boxed.now.path c.args.duals.now c.args.site
