use Rattle.std.proofs.Common.{◌≡◌, ◌≤ℤ◌, ap, arith, List, [], ◌∷◌, ◌++◌, length, length-append}
use Rattle.std.proofs.lemmas.List.Elements.{All-nil, All-push}
use Rattle.binary_knapsack.specs.declared.item.Item.{Item}
use Rattle.binary_knapsack.specs.declared.room.TheConstants.{MAX_WORTH}
use Rattle.binary_knapsack.proofs.tests.items.Goals as goal

pub loop-weight-init : goal.loop-weight-init
loop-weight-init c = record {
  count = rw c.new-items.ensures.items (omega arith);
  small = rw c.new-items.ensures.items (All-nil (λ (x : Item). x.worth ≤ℤ MAX_WORTH));
}

pub loop-weight-preserved : goal.loop-weight-preserved
loop-weight-preserved c =
    let grown : c.push.new.self.items ≡ c.loop-weight.items.items ++ c.item.result ∷ [] = c.in_ok-push.ensures.items in
    record {
      count = omega (arith, ap length grown, length-append c.loop-weight.items.items (c.item.result ∷ []), c.loop-weight.invariant.count);
      small = rw grown (All-push (λ (x : Item). x.worth ≤ℤ MAX_WORTH) c.loop-weight.items.items c.item.result c.loop-weight.invariant.small c.item.ensures);
    }

pub returns-clause-count : goal.returns-clause-count
returns-clause-count c = omega (arith, c.loop-weight.invariant.count, c.loop-weight.auto, c.requires)

pub returns-clause-small : goal.returns-clause-small
returns-clause-small c = c.loop-weight.invariant.small
