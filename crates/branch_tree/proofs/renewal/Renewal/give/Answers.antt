use Rattle.branch_tree.proofs.Coursing.{renewal_left, gives_stored, gives_seen}
use Rattle.branch_tree.proofs.renewal.Renewal.give.Goals as goal

pub give-requires : goal.give-requires
give-requires c = renewal_left _ _ c.self.inside.course.path c.self.inside.course.done.items c.self.inside.course.leaf c.self.inside.course.ahead.items c.self.invariant c.args.self c.self.view_is c.requires.left

pub invariant_of-result : goal.invariant_of-result
invariant_of-result c =
    let old = c.self.inside.course in
    let new = c.in_ok-course.course in
    gives_stored _ _ old.path old.done.items old.leaf old.ahead.items c.self.invariant c.args.self c.self.view_is
    new.path new.done.items new.leaf new.ahead.items c.args.grown.tree c.into_nodes.result.items c.into_nodes.ensures.nodes
    (renewal_left _ _ old.path old.done.items old.leaf old.ahead.items c.self.invariant c.args.self c.self.view_is c.requires.left)
    c.in_ok-course.ensures.nodes c.requires.sites c.requires.customers c.into_nodes.ensures.sound c.requires.few

pub returns : goal.returns
returns c =
    let old = c.self.inside.course in
    let new = c.in_ok-course.course in
    gives_seen _ _ old.path old.done.items old.leaf old.ahead.items c.self.invariant c.args.self c.self.view_is
    new.path new.done.items new.leaf new.ahead.items c.args.grown.tree c.into_nodes.result.items c.into_nodes.ensures.nodes
    (renewal_left _ _ old.path old.done.items old.leaf old.ahead.items c.self.invariant c.args.self c.self.view_is c.requires.left)
    c.in_ok-course.ensures.nodes c.in_ok-course.ensures.settled c.in_ok-course.ensures.ahead
