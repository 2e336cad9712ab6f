use Rattle.std.proofs.Common.{◌≡◌, ◌+◌, ap, ◌∙◌, List, [], ◌∷◌, ◌++◌, drop, max}
use Rattle.std.specs.Prelude.{sum_by}
use Rattle.binary_knapsack.specs.Loads.{Load, Choice, most, reach}
use Rattle.binary_knapsack.specs.Bounds.{excess}
use Rattle.binary_knapsack.specs.declared.limit.Limit.{Limit}
use Rattle.binary_knapsack.proofs.Limits.{bound_by_gain, gain_behind, gain_of_next}
use Rattle.binary_knapsack.proofs.Searches.{search_begin, search_end, reach_small}
use Rattle.binary_knapsack.proofs.searching.search_sorted.Goals as goal

pub loop-k-init : goal.loop-k-init
loop-k-init c =
    let first : Choice = record { room = c.args.cap; worth = 0 } in
    let begun : c.push.new.self.items ≡ first ∷ [] = c.in_ok-push.ensures.items ∙ ap (λ (l : List Choice). l ++ first ∷ []) c.clear.ensures.items in
    record {
      same = search_begin c.first_limit-limit.result.best _ c.args.cap c.args.loads.now c.push.new.self.items begun c.first_limit-limit.ensures.best;
      gain = c.first_limit-limit.ensures.gain;
    }

pub pass-requires-clause-gain : goal.pass-requires-clause-gain
pass-requires-clause-gain c =
    let d : Load = record { weight = 0; worth = 0 } in
    gain_of_next c.loop-k.limit.price c.loop-k.limit.gain c.args.loads.now c.loop-k.k d c.loop-k-test.true c.loop-k.invariant.gain

pub add_load-requires-clause-bound : goal.add_load-requires-clause-bound
add_load-requires-clause-bound c =
    let d : Load = record { weight = 0; worth = 0 } in
    let gain : c.pass.new.self.gain ≡ sum_by (excess c.pass.new.self.price) (drop (c.loop-k.k + 1) c.args.loads.now) =
    rw c.pass.ensures (gain_behind c.loop-k.limit.price c.loop-k.limit.gain c.args.loads.now c.loop-k.k d c.loop-k-test.true c.loop-k.invariant.gain) in
    bound_by_gain c.pass.new.self (drop (c.loop-k.k + 1) c.args.loads.now) gain

pub add_load-requires-clause-small : goal.add_load-requires-clause-small
add_load-requires-clause-small c =
    rw c.deref.ensures.value (reach_small c.loop-k.limit.best c.args.known c.args.cap c.loop-k.k c.args.loads.now c.loop-k.now.items c.loop-k.invariant.same c.requires.sum c.requires.known)

pub loop-k-preserved : goal.loop-k-preserved
loop-k-preserved c =
    let d : Load = record { weight = 0; worth = 0 } in
    let gain : c.pass.new.self.gain ≡ sum_by (excess c.pass.new.self.price) (drop (c.loop-k.k + 1) c.args.loads.now) =
    rw c.pass.ensures (gain_behind c.loop-k.limit.price c.loop-k.limit.gain c.args.loads.now c.loop-k.k d c.loop-k-test.true c.loop-k.invariant.gain) in
    let kept : c.pass.new.self.best ≡ c.loop-k.limit.best = ap (λ (l : Limit). l.best) c.pass.ensures in
    let before : max c.pass.new.self.best (reach (drop c.loop-k.k c.args.loads.now) c.deref.result.now) ≡ max c.args.known (most c.args.cap c.args.loads.now) =
    rw (c.deref.ensures.value, kept) c.loop-k.invariant.same in
    let after : max c.pass.new.self.best (reach (drop (c.loop-k.k + 1) c.args.loads.now) c.add_load.new.next.items) ≡ max c.args.known (most c.args.cap c.args.loads.now) =
    c.in_ok-add_load.ensures ∙ before in
    let rest : List Load = drop (c.loop-k.k + 1) c.args.loads.now in
    let lifted : max c.raised.result (reach rest c.swap.new.x.items) ≡ max c.pass.new.self.best (reach rest c.swap.new.x.items) =
    rw c.deref-in-loop-k.ensures.value at (c.raised.ensures rest) in
    record { same = lifted ∙ rw c.swap.ensures.x_after after; gain = gain }

pub returns : goal.returns
returns c =
    c.greatest.ensures
    ∙ rw c.deref-2.ensures.value (search_end c.loop-k.limit.best (max c.args.known (most c.args.cap c.args.loads.now)) c.loop-k.k c.args.loads.now c.loop-k.now.items c.loop-k-test.false c.loop-k.invariant.same)
