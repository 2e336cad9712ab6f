use Rattle.std.proofs.Common.{◌≡◌, Some, None, [], sym, ap, ◌∙◌, arith}
use Rattle.branch_tree.specs.Walk.{turned}
use Rattle.branch_tree.proofs.Ahead.{turned_first, turned_second, turned_root, next_some, next_none}
use Rattle.branch_tree.proofs.Judged.{no_step}
use Rattle.branch_tree.proofs.walk.pass_leaf.Goals as goal

pub returns-in-Some : goal.returns-in-Some
returns-in-Some c =
    let exact : turned c.args.path.now ≡ Some c.push.new.self = sym c.loop-path.invariant ∙ ap turned c.pop.ensures ∙ turned_first c.pop.result c.in-Some.step c.pop.new.self (sym c.second_child.ensures ∙ c.in-Some.is) ∙ ap Some (sym c.in_ok-push.ensures.ok) in
    record { exact = exact; next = next_some c.args.path.now c.push.new.self exact }

pub loop-path-preserved : goal.loop-path-preserved
loop-path-preserved c =
    sym (turned_second c.pop.result c.pop.new.self (sym c.second_child.ensures ∙ c.in_default.is))
    ∙ sym (ap turned c.pop.ensures)
    ∙ c.loop-path.invariant

pub returns : goal.returns
returns c =
    let root : c.loop-path.path ≡ [] = no_step c.loop-path.path (omega arith) in
    let exact : turned c.args.path.now ≡ None = sym c.loop-path.invariant ∙ ap turned root ∙ turned_root in
    record { exact = exact; next = root ∙ next_none c.args.path.now exact }
