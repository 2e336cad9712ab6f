use Rattle.std.proofs.Common.{rules, ◌≡◌, ◌≤◌, ◌<◌, ◌+◌, ℕ, ◌∙◌, ◌++◌, ◌∷◌, [], Bool, List, sym, ap, subst, arith, length, length-append, drop, Some}
use Rattle.std.specs.Prelude.{◌↔◌, All, IsTrue, IfSome, slice_get}
use Rattle.std.proofs.lemmas.List.{drop-drop, length-drop}
use Rattle.std.proofs.lemmas.List.Elements.{All-drop}
use Rattle.std.proofs.lemmas.Option.{slice_get_within}
use Rattle.location_terms.specs.Box.{Path}
use Rattle.location_terms.specs.Bound.{Duals}
use Rattle.location_terms.specs.Instance.{Instance}
use Rattle.location_terms.specs.Leaf.{LeafCloses}
use Rattle.location_terms.specs.Tree.{Tree, IsTree, StandsOn, HasLists, leaves_of}
use Rattle.branch_tree.proofs.Judged.{first_has, lists_on}
use Rattle.branch_tree.proofs.Renewing.{get_drop}
use Rattle.leaf_repair.proofs.Told.{told_more}
use Rattle.leaf_repair.proofs.holding.held.Goals as goal

lists : (I : Instance) (t : Tree) (n : ℕ) (walk : List (Path × Duals)) (l : Path × Duals) → IsTree t → StandsOn t I → walk ≡ drop n (leaves_of t) → slice_get walk 0 ≡ Some l → HasLists (length I.sites) (length I.customers) l.1
lists I t n walk l tree stands ahead here =
    first_has (λ a. HasLists (length I.sites) (length I.customers) a.1) walk l here (subst (All (λ a. HasLists (length I.sites) (length I.customers) a.1)) (sym ahead) (All-drop (λ a. HasLists (length I.sites) (length I.customers) a.1) n (leaves_of t) (lists_on I t tree stands)))

pub closes_box-requires-clause-customers : goal.closes_box-requires-clause-customers
closes_box-requires-clause-customers c =
    let has = lists c.args.inst.now c.args.tree.now _ c.loop-target.walk (c.leaf.result.0.now, c.leaf.result.1.now) c.leaves.ensures.tree c.requires.stands c.loop-target.invariant.ahead c.leaf.ensures in
    has.1 ∙ sym (ap (λ (J : Instance). length J.customers) c.loop-target.invariant.bounds)

pub closes_box-requires-clause-sites : goal.closes_box-requires-clause-sites
closes_box-requires-clause-sites c =
    let has = lists c.args.inst.now c.args.tree.now _ c.loop-target.walk (c.leaf.result.0.now, c.leaf.result.1.now) c.leaves.ensures.tree c.requires.stands c.loop-target.invariant.ahead c.leaf.ensures in
    has.0 ∙ sym (ap (λ (J : Instance). length J.sites) c.loop-target.invariant.bounds)

pub loop-target-preserved : goal.loop-target-preserved
loop-target-preserved c =
    let I = c.args.inst.now in
    let t = c.args.tree.now in
    let h = c.loop-target.invariant in
    let held : List Bool = c.loop-target.held.items in
    let leaf : Path × Duals = (c.leaf.result.0.now, c.leaf.result.1.now) in
    let n : ℕ = length held in
    let items : c.push.new.self.items ≡ held ++ c.in_ok-closes_box.field-0 ∷ [] = c.in_ok-push.ensures.items in
    let here : slice_get (leaves_of t) n ≡ Some leaf = sym (get_drop n (leaves_of t)) ∙ ap (λ (w : List (Path × Duals)). slice_get w 0) (sym h.ahead) ∙ c.leaf.ensures in
    let is : IsTrue c.in_ok-closes_box.field-0 ↔ LeafCloses I leaf.0 leaf.1 c.args.target = subst (λ (J : Instance). IsTrue c.in_ok-closes_box.field-0 ↔ LeafCloses J leaf.0 leaf.1 c.args.target) h.bounds c.in_ok-closes_box.ensures.exact in
    let more : length c.push.new.self.items ≡ n + 1 = ap length items ∙ length-append held (c.in_ok-closes_box.field-0 ∷ []) in
    let short : n < length (leaves_of t) = slice_get_within (leaves_of t) n leaf here in
    record {
      bounds = c.closes_box.ensures.kept ∙ h.bounds;
      within = omega (arith, more, short);
      ahead = c.in_ok-pass.ensures ∙ ap (drop 1) h.ahead ∙ drop-drop 1 n (leaves_of t) ∙ ap (λ k. drop k (leaves_of t)) (sym more);
      told = subst (λ (v : List Bool). (k : ℕ) → IfSome (slice_get v k) (λ b. IfSome (slice_get (leaves_of t) k) (λ a. IsTrue b ↔ LeafCloses I a.0 a.1 c.args.target))) (sym items)
          (told_more (λ (a : Path × Duals). LeafCloses I a.0 a.1 c.args.target) held (leaves_of t) c.in_ok-closes_box.field-0 leaf here is h.told);
    }

pub returns : goal.returns
returns c =
    let t = c.args.tree.now in
    let h = c.loop-target.invariant in
    let none : length c.loop-target.walk ≡ 0 = search rules in
    let over : length (leaves_of t) ≤ length c.loop-target.held.items = omega (arith, none, ap length h.ahead, length-drop (length c.loop-target.held.items) (leaves_of t)) in
    record { len = omega (arith, over, h.within); each = h.told }
