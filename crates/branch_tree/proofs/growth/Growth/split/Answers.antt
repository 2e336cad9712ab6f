use Rattle.std.proofs.Common.{◌≡◌, ◌+◌, ◌≤◌, ◌++◌, ◌∷◌, [], ◌∙◌, ap, arith, List, Some}
use Rattle.std.specs.Vec.{vec_capacity}
use Rattle.branch_tree.specs.declared.open_split.OpenSplit.{OpenSplit}
use Rattle.location_terms.specs.Split.{second_step}
use Rattle.branch_tree.proofs.OpenSplits.{open_of}
use Rattle.branch_tree.proofs.Growing.{kept_nodes, split_kept, split_seen}
use Rattle.branch_tree.proofs.growth.Growth.split.Goals as goal

pub overflow_add-self : goal.overflow_add-self
overflow_add-self c = omega (arith, kept_nodes c.self.invariant c.args.self.now c.self.view_is, c.requires.few)

pub invariant_of-self-2 : goal.invariant_of-self-2
invariant_of-self-2 c =
    let more_is : c.push_reserved.new.self.items ≡ c.self.inside.above.items ++ open_of c.args.split (Some c.args.first) ∷ [] = c.push_reserved.ensures.items ∙ ap (λ (os : List OpenSplit). os ++ open_of c.args.split (Some c.args.first) ∷ []) c.reserve-2.ensures.items in
    let down_is : c.enter_second.new.path ≡ c.self.inside.path ++ second_step c.args.split ∷ [] = c.in_ok-enter_second.ensures.ok in
    let fits : c.self.inside.nodes + 2 ≤ vec_capacity c.reserve.new.self = omega (arith, c.in_ok-reserve.ensures.ok) in
    split_kept c.self.invariant c.args.self.now c.self.view_is c.requires.left c.args.split c.args.first c.args.second c.enter_second.new.path c.push_reserved.new.self.items down_is more_is
    (vec_capacity c.reserve.new.self) c.reserve.new.self.items c.reserve.ensures.items c.requires.split c.requires.first c.requires.second c.requires.few fits

pub returns-clause-ok : goal.returns-clause-ok
returns-clause-ok c =
    let more_is : c.push_reserved.new.self.items ≡ c.self.inside.above.items ++ open_of c.args.split (Some c.args.first) ∷ [] = c.push_reserved.ensures.items ∙ ap (λ (os : List OpenSplit). os ++ open_of c.args.split (Some c.args.first) ∷ []) c.reserve-2.ensures.items in
    let down_is : c.enter_second.new.path ≡ c.self.inside.path ++ second_step c.args.split ∷ [] = c.in_ok-enter_second.ensures.ok in
    split_seen c.self.invariant c.args.self.now c.self.view_is c.requires.left c.args.split c.args.first c.args.second c.enter_second.new.path c.push_reserved.new.self.items down_is more_is c.reserve.new.self.items c.reserve.ensures.items
