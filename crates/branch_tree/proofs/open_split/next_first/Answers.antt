use Rattle.std.proofs.Common.{◌≡◌, ◌++◌, ◌∷◌, [], ◌∙◌, sym, ap, arith, rules, None, length, length-append, List}
use Rattle.branch_tree.specs.declared.open_split.OpenSplit.{OpenSplit}
use Rattle.branch_tree.specs.OpenSplits.{steps_above, nodes_kept}
use Rattle.branch_tree.proofs.OpenSplits.{closed_nodes, length_kept, closed_left, closed_path, turned_path}
use Rattle.branch_tree.proofs.open_split.next_first.Goals as goal

pub returns-in-Some-first-clause-path : goal.returns-in-Some-first-clause-path
returns-in-Some-first-clause-path c base leads =
    let o : OpenSplit = c.in-Some.field-0 in
    let popped : c.loop-split.above.items ≡ c.pop.new.self.items ++ o ∷ [] = search rules in
    turned_path c.loop-split.above.items c.pop.new.self.items o.split o.first popped c.in-Some-first.first c.in-Some-first.is base c.loop-split.path c.turn_to_first.new.path
    (c.loop-split.invariant.leads base leads)
    c.turn_to_first.ensures
    ∙ ap (λ (xs : List OpenSplit). base ++ steps_above xs) (sym c.push_reserved.ensures.items)

pub loop-split-preserved : goal.loop-split-preserved
loop-split-preserved c =
    let o : OpenSplit = c.in-Some.field-0 in
    let popped : c.loop-split.above.items ≡ c.pop.new.self.items ++ o ∷ [] = search rules in
    record {
      nodes = ap (nodes_kept c.pop.new.self.items None) c.push_reserved-in-None.ensures.items ∙ closed_nodes c.loop-split.above.items c.pop.new.self.items o.split o.first popped c.in-None.is c.loop-split.done.items ∙ c.loop-split.invariant.nodes;
      left = closed_left c.loop-split.above.items c.pop.new.self.items o.split o.first popped c.in-None.is ∙ c.loop-split.invariant.left;
      leads = λ base leads. closed_path c.loop-split.above.items c.pop.new.self.items o.split o.first popped c.in-None.is base c.loop-split.path c.pop-in-None.new.self c.pop-in-None.result (c.loop-split.invariant.leads base leads) c.pop-in-None.ensures;
      deep = omega (arith, ap length popped, length-append c.pop.new.self.items (o ∷ []), ap length c.pop-in-None.ensures, length-append c.pop-in-None.new.self (c.pop-in-None.result ∷ []));
      same_room = c.push_reserved-in-None.ensures.capacity ∙ c.loop-split.invariant.same_room;
    }

pub push_reserved-requires-in-None : goal.push_reserved-requires-in-None
push_reserved-requires-in-None c =
    let o : OpenSplit = c.in-Some.field-0 in
    let popped : c.loop-split.above.items ≡ c.pop.new.self.items ++ o ∷ [] = search rules in
    omega (arith, ap length c.loop-split.invariant.nodes, length_kept c.loop-split.above.items c.pop.new.self.items o.split o.first popped c.loop-split.done.items)
