use Rattle.std.proofs.Common.{◌≡◌, ℕ, ◌∙◌, Bool, List, Some, sym, ap, arith, length}
use Rattle.std.specs.Prelude.{slice_get}
use Rattle.std.specs.Option.{option_copied}
use Rattle.branch_tree.specs.declared.entry.Entry.TheVariants.{End, Branch}
use Rattle.branch_tree.specs.Preorder.{flat}
use Rattle.branch_tree.specs.Made.{duals_at}
use Rattle.leaf_repair.proofs.Reduced.{room, flag_taken, after_leaf, after_split, lists_at, leaf_at, split_at, leaf_told}
use Rattle.leaf_repair.proofs.reducing.pass.Goals as goal

pub branch-source-requires-clause-few : goal.branch-source-requires-clause-few
branch-source-requires-clause-few c =
    let I = c.args.source.now.inst.now in
    let t = c.args.source.now.tree.now in
    let at : ℕ = c.args.at in
    let over = c.args.course.now.over in
    let ws : List Bool = c.pop.new.self.items in
    let w : Bool = c.unwrap_or-is_wanted.result in
    let way = flag_taken I t at over.entries c.args.course.now.wanted.items ws c.pop.result w c.requires.course.way c.requires.at c.pop.ensures.items (λ some. c.pop.ensures.variant.1 (omega (arith, some, c.args.course.now.wanted.ok))) c.unwrap_or-is_wanted.ensures in
    λ is.
    let fits = room I t at over.entries ws w way c.requires.at is in
    omega (arith, fits, c.requires.source.few)

pub end-requires-clause-few : goal.end-requires-clause-few
end-requires-clause-few c =
    let I = c.args.source.now.inst.now in
    let t = c.args.source.now.tree.now in
    let at : ℕ = c.args.at in
    let over = c.args.course.now.over in
    let ws : List Bool = c.pop.new.self.items in
    let w : Bool = c.unwrap_or-is_wanted.result in
    let way = flag_taken I t at over.entries c.args.course.now.wanted.items ws c.pop.result w c.requires.course.way c.requires.at c.pop.ensures.items (λ some. c.pop.ensures.variant.1 (omega (arith, some, c.args.course.now.wanted.ok))) c.unwrap_or-is_wanted.ensures in
    λ is.
    let fits = room I t at over.entries ws w way c.requires.at is in
    omega (arith, fits, c.requires.source.few)

pub end-requires-clause-lists : goal.end-requires-clause-lists
end-requires-clause-lists c =
    let t = c.args.source.now.tree.now in
    let at : ℕ = c.args.at in
    let told : duals_at t.root at ≡ Some c.in-Some.duals.now = sym c.duals.ensures ∙ ap option_copied c.in-Some.is in
    let here : slice_get (flat t.root) at ≡ Some (End c.in-Some.duals.now) = leaf_at t.root at c.in-Some.duals.now told in
    lists_at (length t.sites) (length t.customers) t.root at c.in-Some.duals.now c.requires.source.tree.leaves here

pub unreachable-requires : goal.unreachable-requires
unreachable-requires c =
    let t = c.args.source.now.tree.now in
    leaf_told t.root c.args.at (c.node.ensures ∙ ap Some c.in-Leaf.is) (sym c.duals.ensures ∙ ap option_copied c.in-None.is)

pub returns-in_ok-branch-in-Split : goal.returns-in_ok-branch-in-Split
returns-in_ok-branch-in-Split c =
    let I = c.args.source.now.inst.now in
    let t = c.args.source.now.tree.now in
    let at : ℕ = c.args.at in
    let over = c.args.course.now.over in
    let ws : List Bool = c.pop.new.self.items in
    let w : Bool = c.unwrap_or-is_wanted.result in
    let way = flag_taken I t at over.entries c.args.course.now.wanted.items ws c.pop.result w c.requires.course.way c.requires.at c.pop.ensures.items (λ some. c.pop.ensures.variant.1 (omega (arith, some, c.args.course.now.wanted.ok))) c.unwrap_or-is_wanted.ensures in
    let here : slice_get (flat t.root) at ≡ Some (Branch c.in-Split.split) = split_at t.root at c.in-Split.split (c.node.ensures ∙ ap Some c.in-Split.is) in
    after_split I t at over c.requires.course.sites c.requires.course.customers ws w way c.in-Split.split c.branch-source.new.course.over c.branch-source.new.course.wanted.items here c.in_ok-branch-in-Split.ensures.over c.in_ok-branch-in-Split.ensures.wanted

pub returns-in_ok-end-in-Some : goal.returns-in_ok-end-in-Some
returns-in_ok-end-in-Some c =
    let I = c.args.source.now.inst.now in
    let t = c.args.source.now.tree.now in
    let at : ℕ = c.args.at in
    let over = c.args.course.now.over in
    let ws : List Bool = c.pop.new.self.items in
    let w : Bool = c.unwrap_or-is_wanted.result in
    let way = flag_taken I t at over.entries c.args.course.now.wanted.items ws c.pop.result w c.requires.course.way c.requires.at c.pop.ensures.items (λ some. c.pop.ensures.variant.1 (omega (arith, some, c.args.course.now.wanted.ok))) c.unwrap_or-is_wanted.ensures in
    let told : duals_at t.root at ≡ Some c.in-Some.duals.now = sym c.duals.ensures ∙ ap option_copied c.in-Some.is in
    let here : slice_get (flat t.root) at ≡ Some (End c.in-Some.duals.now) = leaf_at t.root at c.in-Some.duals.now told in
    after_leaf I t at over c.requires.course.sites c.requires.course.customers ws w way c.in-Some.duals.now c.end.new.over here c.in_ok-end-in-Some.ensures
