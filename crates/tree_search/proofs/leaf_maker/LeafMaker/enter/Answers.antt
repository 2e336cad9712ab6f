use Rattle.dual_value.specs.Zeros.{zeros}
use Rattle.location_terms.specs.Bound.{bound_of}
use Rattle.tree_search.specs.Making.{IsMaking}
use Rattle.tree_search.proofs.Comparing.{at_least_trans}
use Rattle.tree_search.proofs.Leaves.{below_leaf}
use Rattle.tree_search.proofs.leaf_maker.LeafMaker.enter.Goals as goal

pub take-requires-clause-making : goal.take-requires-clause-making
take-requires-clause-making c = (c.args.boxed.now.path, zeros c.args.boxed.now.instance 0, c.in_ok-begin.ensures.making)

pub take-requires-2-clause-making : goal.take-requires-2-clause-making
take-requires-2-clause-making c = (c.args.boxed.now.path, zeros c.args.boxed.now.instance 0, c.take.ensures.stays.making c.args.boxed.now.path (zeros c.args.boxed.now.instance 0) c.in_ok-begin.ensures.making)

pub returns-then-are_same-clause-making : goal.returns-then-are_same-clause-making
returns-then-are_same-clause-making c =
    let I = c.args.boxed.now.instance in
    let path = c.args.boxed.now.path in
    below_leaf I path c.take.new.self c.args.old.now (c.take.ensures.stays.making path (zeros I 0) c.in_ok-begin.ensures.making) c.take.ensures.taken

pub returns-clause-making : goal.returns-clause-making
returns-clause-making c =
    let I = c.args.boxed.now.instance in
    let path = c.args.boxed.now.path in
    let old = c.args.old.now in
    let m = c.take.new.self in
    let n = c.take-2.new.self in
    let first : IsMaking I path (zeros I 0) path m = c.take.ensures.stays.making path (zeros I 0) c.in_ok-begin.ensures.making in
    let second = c.take-2.ensures.stays in
    below_leaf I path n old (second.making path (zeros I 0) first)
    (λ form tame scale. at_least_trans (bound_of I path n.best.duals) (bound_of I path m.best.duals) (bound_of I path old) n.best.duals.q m.best.duals.q old.q first.best_risen.tame.scaled second.risen (c.take.ensures.taken form tame scale))
