use Rattle.std.proofs.Common.{◌≡◌, ◌∷◌, subst, sym}
use Rattle.std.specs.Map.Iter.{deref_pair}
use Rattle.std.proofs.lemmas.Map.Iter.{rest_more, rest_all}
use Rattle.pmed_paths.proofs.ArcRows.{AreAdded, added-begin, added-more, added-all, ends-inside}
use Rattle.pmed_paths.proofs.arcs.add_edges.Goals as goal

pub loop-ends-init : goal.loop-ends-init
loop-ends-init c =
    let given = c.into_iter-ends-iterator.ensures.into_iter_gives in
    added-begin c.args.net.now c.edges-edges.result.now c.into_iter-ends-iterator.result c.args.rows.now c.edges-edges.ensures given.0 given.6 c.requires.none

pub overflow_sub-ends : goal.overflow_sub-ends
overflow_sub-ends c =
    let left : c.loop-ends.ends-iterator ≡ (c.in-Some.ends.now, c.in-Some.cost.now) ∷ c.next.new.self = rest_more deref_pair _ _ _ _ c.in-Some.is c.next.ensures.steps in
    let are = subst (λ l. AreAdded c.args.net.now l c.loop-ends.rows) left c.loop-ends.invariant in
    (ends-inside c.args.net.now c.requires.network c.next.new.self (c.in-Some.ends.now, c.in-Some.cost.now) c.loop-ends.rows are).0

pub overflow_sub-ends-in-loop-ends : goal.overflow_sub-ends-in-loop-ends
overflow_sub-ends-in-loop-ends c =
    let left : c.loop-ends.ends-iterator ≡ (c.in-Some.ends.now, c.in-Some.cost.now) ∷ c.next.new.self = rest_more deref_pair _ _ _ _ c.in-Some.is c.next.ensures.steps in
    let are = subst (λ l. AreAdded c.args.net.now l c.loop-ends.rows) left c.loop-ends.invariant in
    (ends-inside c.args.net.now c.requires.network c.next.new.self (c.in-Some.ends.now, c.in-Some.cost.now) c.loop-ends.rows are).1

pub add_edge-requires-clause-first : goal.add_edge-requires-clause-first
add_edge-requires-clause-first c =
    let left : c.loop-ends.ends-iterator ≡ (c.in-Some.ends.now, c.in-Some.cost.now) ∷ c.next.new.self = rest_more deref_pair _ _ _ _ c.in-Some.is c.next.ensures.steps in
    let are = subst (λ l. AreAdded c.args.net.now l c.loop-ends.rows) left c.loop-ends.invariant in
    (ends-inside c.args.net.now c.requires.network c.next.new.self (c.in-Some.ends.now, c.in-Some.cost.now) c.loop-ends.rows are).2

pub add_edge-requires-clause-second : goal.add_edge-requires-clause-second
add_edge-requires-clause-second c =
    let left : c.loop-ends.ends-iterator ≡ (c.in-Some.ends.now, c.in-Some.cost.now) ∷ c.next.new.self = rest_more deref_pair _ _ _ _ c.in-Some.is c.next.ensures.steps in
    let are = subst (λ l. AreAdded c.args.net.now l c.loop-ends.rows) left c.loop-ends.invariant in
    (ends-inside c.args.net.now c.requires.network c.next.new.self (c.in-Some.ends.now, c.in-Some.cost.now) c.loop-ends.rows are).3

pub loop-ends-preserved : goal.loop-ends-preserved
loop-ends-preserved c =
    let left : c.loop-ends.ends-iterator ≡ (c.in-Some.ends.now, c.in-Some.cost.now) ∷ c.next.new.self = rest_more deref_pair _ _ _ _ c.in-Some.is c.next.ensures.steps in
    let are = subst (λ l. AreAdded c.args.net.now l c.loop-ends.rows) left c.loop-ends.invariant in
    subst (AreAdded c.args.net.now c.next.new.self) (sym c.in_ok-add_edge.ensures) (added-more c.args.net.now c.requires.network c.next.new.self (c.in-Some.ends.now, c.in-Some.cost.now) c.loop-ends.rows are)

pub returns : goal.returns
returns c =
    let none = rest_all deref_pair _ _ _ c.in-None.is c.next.ensures.steps in
    added-all c.args.net.now c.requires.network c.loop-ends.rows (subst (λ l. AreAdded c.args.net.now l c.loop-ends.rows) none c.loop-ends.invariant)
