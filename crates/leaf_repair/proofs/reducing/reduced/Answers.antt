use Rattle.std.proofs.Common.{rules, ◌≡◌, ◌∙◌, ◌∷◌, [], List, Bool, Some, true, sym, ap, subst, arith}
use Rattle.std.specs.Prelude.{All}
use Rattle.location_terms.specs.Leaf.{LeafFits}
use Rattle.location_terms.specs.Tree.{Tree, Node, leaves_of}
use Rattle.branch_tree.specs.declared.entry.Entry.{Entry}
use Rattle.branch_tree.specs.Preorder.{flat, tree_of, tree_of-flat}
use Rattle.branch_tree.specs.Begun.{Begun}
use Rattle.branch_tree.specs.Walk.{IsWhole}
use Rattle.branch_tree.proofs.Whole.{whole-flat}
use Rattle.leaf_repair.specs.CarriedTree.{reduced, reduced_tree}
use Rattle.leaf_repair.specs.UnderWay.{IsUnderWay}
use Rattle.leaf_repair.proofs.Reduced.{started, ended, reduced_fits}
use Rattle.leaf_repair.proofs.reducing.reduced.Goals as goal

pub loop-at-init : goal.loop-at-init
loop-at-init c =
    let I = c.args.inst.now in
    let t = c.args.tree.now in
    let flags : c.in_ok-wanted.wanted.items ≡ true ∷ [] = search rules in
    record {
      sites = ap (λ (b : Begun). b.sites) c.in_ok-over.ensures;
      customers = ap (λ (b : Begun). b.customers) c.in_ok-over.ensures;
      way = subst (λ (es : List Entry). IsUnderWay I t 0 es c.in_ok-wanted.wanted.items) (sym (ap (λ (b : Begun). b.entries) c.in_ok-over.ensures)) (subst (λ (fs : List Bool). IsUnderWay I t 0 [] fs) (sym flags) (started I t));
    }

pub finish-carried-requires : goal.finish-carried-requires
finish-carried-requires c =
    let I = c.args.inst.now in
    let t = c.args.tree.now in
    let over = c.loop-at.course.over in
    let h = c.loop-at.invariant in
    let r : Node = reduced I t.sites t.customers t.root in
    let all : over.entries ≡ flat r = ended I t c.loop-at.at over.entries c.loop-at.course.wanted.items h.way (omega (arith, c.nodes-nodes.ensures.count)) in
    subst (IsWhole (Some [])) (sym all) (whole-flat r)

pub returns-clause-exact : goal.returns-clause-exact
returns-clause-exact c =
    let I = c.args.inst.now in
    let t = c.args.tree.now in
    let over = c.loop-at.course.over in
    let h = c.loop-at.invariant in
    let r : Node = reduced I t.sites t.customers t.root in
    let all : over.entries ≡ flat r = ended I t c.loop-at.at over.entries c.loop-at.course.wanted.items h.way (omega (arith, c.nodes-nodes.ensures.count)) in
    let root : tree_of over.entries ≡ r = ap tree_of all ∙ tree_of-flat r in
    c.finish-carried.ensures ∙ (λ i. let x : Tree = record { sites = h.sites i; customers = h.customers i; root = root i } in x)

pub returns-clause-fit : goal.returns-clause-fit
returns-clause-fit c =
    let I = c.args.inst.now in
    let t = c.args.tree.now in
    let over = c.loop-at.course.over in
    let h = c.loop-at.invariant in
    let r : Node = reduced I t.sites t.customers t.root in
    let all : over.entries ≡ flat r = ended I t c.loop-at.at over.entries c.loop-at.course.wanted.items h.way (omega (arith, c.nodes-nodes.ensures.count)) in
    let root : tree_of over.entries ≡ r = ap tree_of all ∙ tree_of-flat r in
    let exact : c.finish-carried.result ≡ reduced_tree I t = c.finish-carried.ensures ∙ (λ i. let x : Tree = record { sites = h.sites i; customers = h.customers i; root = root i } in x) in
    subst (λ (x : Tree). All (λ l. LeafFits I l.1) (leaves_of x)) (sym exact) (reduced_fits I t.sites t.customers t.root [] [] c.nodes-nodes.ensures.tree.leaves)
