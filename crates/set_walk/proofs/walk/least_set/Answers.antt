use Rattle.std.proofs.Common.{◌+◌, ◌≤◌, length, arith, sym, subst}
use Rattle.set_walk.specs.declared.walk.PricedSet.{PricedSet}
use Rattle.set_walk.specs.Set.{opened}
use Rattle.set_walk.proofs.Steps.{IsLeastSoFar, IsLeastSoFar-first, IsLeastSoFar-takes, IsLeastSoFar-keeps, opened_some, sets_some, sets_are}
use Rattle.set_walk.proofs.walk.least_set.Goals as goal
use Rattle.set_walk.proofs.walk.least_set.Goals.{then-cost-best, else-cost-best, In-loop-bits}

pub set_cost-requires-clause-some : goal.set_cost-requires-clause-some
set_cost-requires-clause-some c = opened_some c.args.inst.now 1 (omega arith) (sets_some (length c.args.inst.now.sites) c.sites.ensures.valid.sizes.some_site)

pub loop-bits-init : goal.loop-bits-init
loop-bits-init c =
    let some = opened_some c.args.inst.now 1 (omega arith) (sets_some (length c.args.inst.now.sites) c.sites.ensures.valid.sizes.some_site) in
    IsLeastSoFar-first c.args.inst.now c.set_cost.result some c.set_cost.ensures

-- each set of the walk holds a site
holds_some : (c : In-loop-bits) → 1 ≤ length (opened c.args.inst.now c.loop-bits.bits)
holds_some c =
    let sets = sets_are c.sites.result (length c.args.inst.now.sites) c.sites.ensures.count c.requires.few in
    opened_some c.args.inst.now c.loop-bits.bits (omega arith) (omega (arith, sets, c.loop-bits-test.true))

pub set_cost-cost-requires-clause-some : goal.set_cost-cost-requires-clause-some
set_cost-cost-requires-clause-some c = holds_some c

pub loop-bits-preserved : goal.loop-bits-preserved
loop-bits-preserved c =
    let I = c.args.inst.now in
    let bits = c.loop-bits.bits in
    let best = c.loop-bits.best in
    let so_far = c.loop-bits.invariant in
    elim c.if-cost-best.branch [
      | then-cost-best w ↦ subst (λ (b : PricedSet). IsLeastSoFar I (bits + 1) b.set.bits b.cost) (sym w.best-is) (IsLeastSoFar-takes I bits best.set.bits best.cost c.set_cost-cost.result so_far (holds_some (goal.at.loop-bits-preserved c).In-loop-bits) c.set_cost-cost.ensures w.if-cost-best.true)
      | else-cost-best w ↦ subst (λ (b : PricedSet). IsLeastSoFar I (bits + 1) b.set.bits b.cost) (sym w.best-is) (IsLeastSoFar-keeps I bits best.set.bits best.cost c.set_cost-cost.result so_far c.set_cost-cost.ensures w.if-cost-best.false)
    ]
