use Rattle.std.proofs.Common.{◌<◌, sym, subst, length}
use Rattle.location_terms.specs.Instance.{IsValid}
use Rattle.location_terms.specs.Tree.{HasLists}
use Rattle.branch_tree.proofs.Built.{leaf_is}
use Rattle.tree_search.specs.Working.{IsGrowing, steps_left}
use Rattle.tree_search.proofs.Grew.{reached_at, lists_here, finished, finished_less, split_sound, halves, halves_less, room_left, room_spent, ended_is}
use Rattle.tree_search.proofs.leaf_growth.step.Goals as goal

pub work-requires-clause-path : goal.work-requires-clause-path
work-requires-clause-path g c =
    let growing = c.requires.growing in
    let at_work = leaf_is _ c.path.result.now c.duals.result.now c.path.ensures c.duals.ensures in
    let reached = reached_at c.args.search.now.best.instance growing.0 c.args.replaced.now growing.1 c.args.search.now.best.plan c.args.search.now.best.plan c.args.limit c.args.growth.now growing.2 c.requires.left c.path.result.now c.duals.result.now at_work in
    reached.known

pub work-requires-clause-near : goal.work-requires-clause-near
work-requires-clause-near g c =
    let growing = c.requires.growing in
    let at_work = leaf_is _ c.path.result.now c.duals.result.now c.path.ensures c.duals.ensures in
    let reached = reached_at c.args.search.now.best.instance growing.0 c.args.replaced.now growing.1 c.args.search.now.best.plan c.args.search.now.best.plan c.args.limit c.args.growth.now growing.2 c.requires.left c.path.result.now c.duals.result.now at_work in
    reached.fit.numbers

pub set_duals-requires-clause-lists : goal.set_duals-requires-clause-lists
set_duals-requires-clause-lists g c =
    let I = c.args.search.now.best.instance in
    let growing = c.requires.growing in
    let g = c.args.growth.now in
    let at_work = leaf_is _ c.path.result.now c.duals.result.now c.path.ensures c.duals.ensures in
    let valid : IsValid I = subst IsValid c.instance.ensures c.sites-sites.ensures.valid in
    lists_here I growing.0 c.args.replaced.now growing.1 c.args.search.now.best.plan c.work.new.search.best.plan c.args.limit g growing.2 c.requires.left c.path.result.now c.duals.result.now at_work
    valid _ c.in_ok-worked.worked.duals c.in_ok-worked.worked.split c.in_ok-worked.ensures.plan.no_worse c.in_ok-worked.ensures.worked

pub split-requires-clause-split : goal.split-requires-clause-split
split-requires-clause-split g c =
    let I = c.args.search.now.best.instance in
    let growing = c.requires.growing in
    let g = c.args.growth.now in
    let at_work = leaf_is _ c.path.result.now c.duals.result.now c.path.ensures c.duals.ensures in
    let valid : IsValid I = subst IsValid c.instance.ensures c.sites-sites.ensures.valid in
    split_sound I growing.0 c.args.replaced.now growing.1 c.args.search.now.best.plan c.work.new.search.best.plan c.args.limit g growing.2 c.requires.left c.path.result.now c.duals.result.now at_work
    valid _ c.in_ok-worked.worked.duals c.in_ok-worked.worked.split c.in_ok-worked.ensures.plan.no_worse c.in_ok-worked.ensures.worked
    c.in-Some.split c.in-Some.is c.in_ok-first-in-Some.first c.in_ok-first-in-Some.ensures (room_left c.nodes.result _ c.args.limit c.nodes.ensures)

pub split-requires-clause-second : goal.split-requires-clause-second
split-requires-clause-second g c =
    let I = c.args.search.now.best.instance in
    let growing = c.requires.growing in
    let g = c.args.growth.now in
    let at_work = leaf_is _ c.path.result.now c.duals.result.now c.path.ensures c.duals.ensures in
    let valid : IsValid I = subst IsValid c.instance.ensures c.sites-sites.ensures.valid in
    lists_here I growing.0 c.args.replaced.now growing.1 c.args.search.now.best.plan c.work.new.search.best.plan c.args.limit g growing.2 c.requires.left c.path.result.now c.duals.result.now at_work
    valid _ c.in_ok-worked.worked.duals c.in_ok-worked.worked.split c.in_ok-worked.ensures.plan.no_worse c.in_ok-worked.ensures.worked

pub split-requires-clause-first : goal.split-requires-clause-first
split-requires-clause-first g c =
    let I = c.args.search.now.best.instance in
    let growing = c.requires.growing in
    let g = c.args.growth.now in
    let at_work = leaf_is _ c.path.result.now c.duals.result.now c.path.ensures c.duals.ensures in
    let valid : IsValid I = subst IsValid c.instance.ensures c.sites-sites.ensures.valid in
    let lists : HasLists (length g.tree.sites) (length g.tree.customers) c.in_ok-worked.worked.duals =
    lists_here I growing.0 c.args.replaced.now growing.1 c.args.search.now.best.plan c.work.new.search.best.plan c.args.limit g growing.2 c.requires.left c.path.result.now c.duals.result.now at_work
    valid _ c.in_ok-worked.worked.duals c.in_ok-worked.worked.split c.in_ok-worked.ensures.plan.no_worse c.in_ok-worked.ensures.worked in
    subst (HasLists (length g.tree.sites) (length g.tree.customers)) (sym c.in_ok-first-in-Some.ensures) lists

pub returns-in-None-clause-growing : goal.returns-in-None-clause-growing
returns-in-None-clause-growing g c = λ base handed under.
    let I = c.args.search.now.best.instance in
    let growing = c.requires.growing in
    let g = c.args.growth.now in
    let at_work = leaf_is _ c.path.result.now c.duals.result.now c.path.ensures c.duals.ensures in
    let valid : IsValid I = subst IsValid c.instance.ensures c.sites-sites.ensures.valid in
    subst (IsGrowing I base c.args.replaced.now handed c.work.new.search.best.plan c.args.limit)
    (sym (ended_is g c.set_duals.new.self c.finish.new.self c.in_ok-worked.worked.duals c.set_duals.ensures c.finish.ensures))
    (finished I base c.args.replaced.now handed c.args.search.now.best.plan c.work.new.search.best.plan c.args.limit g under c.requires.left c.path.result.now c.duals.result.now at_work
    valid _ c.in_ok-worked.worked.duals c.in_ok-worked.worked.split c.in_ok-worked.ensures.plan.no_worse c.in_ok-worked.ensures.worked
    c.in-None.is (room_spent c.nodes.result _ c.args.limit c.nodes.ensures))

pub returns-in-None-clause-less : goal.returns-in-None-clause-less
returns-in-None-clause-less g c =
    let I = c.args.search.now.best.instance in
    let growing = c.requires.growing in
    let g = c.args.growth.now in
    let at_work = leaf_is _ c.path.result.now c.duals.result.now c.path.ensures c.duals.ensures in
    let valid : IsValid I = subst IsValid c.instance.ensures c.sites-sites.ensures.valid in
    subst (λ h. steps_left c.args.limit h < steps_left c.args.limit g)
    (sym (ended_is g c.set_duals.new.self c.finish.new.self c.in_ok-worked.worked.duals c.set_duals.ensures c.finish.ensures))
    (finished_less I growing.0 c.args.replaced.now growing.1 c.args.search.now.best.plan c.work.new.search.best.plan c.args.limit g growing.2 c.requires.left c.path.result.now c.duals.result.now at_work
    valid _ c.in_ok-worked.worked.duals c.in_ok-worked.worked.split c.in_ok-worked.ensures.plan.no_worse c.in_ok-worked.ensures.worked
    c.in-None.is (room_spent c.nodes.result _ c.args.limit c.nodes.ensures))

pub returns-in_ok-split-in-Some-clause-growing : goal.returns-in_ok-split-in-Some-clause-growing
returns-in_ok-split-in-Some-clause-growing g c = λ base handed under.
    let I = c.args.search.now.best.instance in
    let growing = c.requires.growing in
    let g = c.args.growth.now in
    let at_work = leaf_is _ c.path.result.now c.duals.result.now c.path.ensures c.duals.ensures in
    let valid : IsValid I = subst IsValid c.instance.ensures c.sites-sites.ensures.valid in
    subst (IsGrowing I base c.args.replaced.now handed c.work.new.search.best.plan c.args.limit) (sym c.in_ok-split-in-Some.ensures.ok)
    (halves I base c.args.replaced.now handed c.args.search.now.best.plan c.work.new.search.best.plan c.args.limit g under c.requires.left c.path.result.now c.duals.result.now at_work
    valid _ c.in_ok-worked.worked.duals c.in_ok-worked.worked.split c.in_ok-worked.ensures.plan.no_worse c.in_ok-worked.ensures.worked
    c.in-Some.split c.in-Some.is c.in_ok-first-in-Some.first c.in_ok-first-in-Some.ensures (room_left c.nodes.result _ c.args.limit c.nodes.ensures))

pub returns-in_ok-split-in-Some-clause-less : goal.returns-in_ok-split-in-Some-clause-less
returns-in_ok-split-in-Some-clause-less g c =
    let I = c.args.search.now.best.instance in
    let growing = c.requires.growing in
    let g = c.args.growth.now in
    let at_work = leaf_is _ c.path.result.now c.duals.result.now c.path.ensures c.duals.ensures in
    let valid : IsValid I = subst IsValid c.instance.ensures c.sites-sites.ensures.valid in
    subst (λ h. steps_left c.args.limit h < steps_left c.args.limit g) (sym c.in_ok-split-in-Some.ensures.ok)
    (halves_less I growing.0 c.args.replaced.now growing.1 c.args.search.now.best.plan c.work.new.search.best.plan c.args.limit g growing.2 c.requires.left c.path.result.now c.duals.result.now at_work
    valid _ c.in_ok-worked.worked.duals c.in_ok-worked.worked.split c.in_ok-worked.ensures.plan.no_worse c.in_ok-worked.ensures.worked
    c.in-Some.split c.in-Some.is c.in_ok-first-in-Some.first c.in_ok-first-in-Some.ensures (room_left c.nodes.result _ c.args.limit c.nodes.ensures))
