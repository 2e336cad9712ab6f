use Rattle.std.proofs.Common.{ℕ, ap, ◌∙◌, List, max}
use Rattle.binary_knapsack.specs.Loads.{Choice, reach}
use Rattle.binary_knapsack.proofs.Choices.{reach_push}
use Rattle.binary_knapsack.proofs.merging.add.Goals as goal

pub returns-in_ok-push : goal.returns-in_ok-push
returns-in_ok-push c = λ rest bound. ap (λ (cs : List Choice). max c.args.limit.now.best (reach rest cs)) c.in_ok-push.ensures.items ∙ ap (λ (n : ℕ). max c.args.limit.now.best n) (reach_push rest c.args.next.now.items c.args.choice.now)
