use Rattle.std.proofs.Common.{ap, max, ◌∙◌}
use Rattle.binary_knapsack.specs.Loads.{most}
use Rattle.binary_knapsack.proofs.Orders.{most-IsPermutation}
use Rattle.binary_knapsack.proofs.searching.search.Goals as goal

pub returns : goal.returns
returns c = c.in_ok-worth.ensures ∙ ap (λ loads. max c.args.known (most c.args.cap loads)) c.deref.ensures.value ∙ ap (max c.args.known) (most-IsPermutation c.args.loads.now.items c.sort_unstable_by.new.self.items c.sort_unstable_by.ensures.permutation c.args.cap)
