use Rattle.std.proofs.Common.{◌≡◌, ◌≤◌, sym, arith, ◌∙◌}
use Rattle.std.specs.Prelude.{sum_by}
use Rattle.binary_knapsack.specs.Loads.{Load, most}
use Rattle.binary_knapsack.proofs.Most.{most_of_all}
use Rattle.binary_knapsack.proofs.room.KnapsackRoom.best_within.Goals as goal

pub returns-then-fit_together : goal.returns-then-fit_together
returns-then-fit_together c =
    let fits : sum_by (λ (x : Load). x.weight) c.args.self.now.loads.items ≤ c.args.cap = rw c.deref.ensures.value at (c.fit_together.ensures c.if-fit_together.true) in
    let total : c.total_worth.result ≡ most c.args.cap c.args.self.now.loads.items = c.total_worth.ensures ∙ rw c.deref-then-fit_together.ensures.value (sym (most_of_all c.args.self.now.loads.items c.args.cap fits)) in
    omega (arith, total)
