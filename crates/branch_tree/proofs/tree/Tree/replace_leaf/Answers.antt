use Rattle.std.proofs.Common.{◌≡◌, ◌<◌, sym, subst, length, get_or, take, true}
use Rattle.std.specs.Prelude.{count_by}
use Rattle.branch_tree.specs.Leaf.{is_end}
use Rattle.branch_tree.proofs.Found.{stored_count}
use Rattle.branch_tree.proofs.Spliced.{spliced_stored, spliced_seen}
use Rattle.branch_tree.proofs.tree.Tree.replace_leaf.Goals as goal

pub leaf_place-place-requires : goal.leaf_place-place-requires
leaf_place-place-requires c =
    subst (λ n. c.args.k < count_by is_end n) (sym c.deref.ensures.value)
    (stored_count c.self.invariant c.args.self.now c.self.view_is c.args.k c.requires.leaf)

pub invariant_of-self-2 : goal.invariant_of-self-2
invariant_of-self-2 c =
    spliced_stored c.self.invariant c.part.invariant c.leaf_place-place.result c.args.k
    (subst (λ xs. c.leaf_place-place.result < length xs) c.deref.ensures.value c.leaf_place-place.ensures.within)
    (λ e. subst (λ xs. is_end (get_or xs c.leaf_place-place.result e) ≡ true) c.deref.ensures.value (c.leaf_place-place.ensures.leaf e))
    (subst (λ xs. count_by is_end (take c.leaf_place-place.result xs) ≡ c.args.k) c.deref.ensures.value c.leaf_place-place.ensures.before)
    c.replace_at.new.nodes.items c.in_ok-replace_at.ensures.ok
    c.args.self.now c.args.part c.self.view_is c.part.view_is c.requires.sites c.requires.customers c.requires.few

pub returns-clause-ok : goal.returns-clause-ok
returns-clause-ok c =
    spliced_seen c.self.invariant c.part.invariant c.leaf_place-place.result c.args.k
    (subst (λ xs. c.leaf_place-place.result < length xs) c.deref.ensures.value c.leaf_place-place.ensures.within)
    (λ e. subst (λ xs. is_end (get_or xs c.leaf_place-place.result e) ≡ true) c.deref.ensures.value (c.leaf_place-place.ensures.leaf e))
    (subst (λ xs. count_by is_end (take c.leaf_place-place.result xs) ≡ c.args.k) c.deref.ensures.value c.leaf_place-place.ensures.before)
    c.replace_at.new.nodes.items c.in_ok-replace_at.ensures.ok
    c.args.self.now c.args.part c.self.view_is c.part.view_is
