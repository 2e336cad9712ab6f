use Rattle.std.proofs.Common.{◌≡◌, ◌↔◌, ℕ, ◌<◌, ◌++◌, ◌∷◌, [], ap, sym, subst, ◌∙◌, arith, Bool, List, length, length-append, get_or, Some}
use Rattle.std.specs.Prelude.{IsTrue, IfSome, slice_get}
use Rattle.std.proofs.lemmas.Option.{slice_get-get_or}
use Rattle.location_terms.specs.Box.{Path}
use Rattle.location_terms.specs.Bound.{Duals}
use Rattle.location_terms.specs.Leaf.{LeafCloses}
use Rattle.location_terms.specs.Tree.{leaves_of}
use Rattle.branch_tree.specs.Preorder.{no_duals}
use Rattle.dual_value.specs.declared.bounds.TheConstants.{MAX_BOUND}
use Rattle.dual_value.proofs.Sizes.{kept}
use Rattle.leaf_repair.specs.CarriedTree.{carried_tree}
use Rattle.leaf_repair.proofs.Told.{told_more}
use Rattle.leaf_book.specs.Sums.{LeafSums}
use Rattle.leaf_book.specs.Book.{sums_at}
use Rattle.leaf_book.specs.Rows.{Held}
use Rattle.leaf_book.proofs.Books.{used_are, leaf_is}
use Rattle.leaf_book.proofs.Holding.{leaf_count, told}
use Rattle.leaf_book.proofs.book.LeafBook.held.Goals as goal

pub loop-leaf-preserved : goal.loop-leaf-preserved
loop-leaf-preserved c =
    let I = c.args.inst.now in
    let t = c.args.tree.now in
    let b = c.args.self.now in
    let target = c.args.target in
    let inv = c.loop-leaf.invariant in
    let held : List Bool = c.loop-leaf.held.items in
    let n : ℕ = length held in
    let k : ℕ = c.loop-leaf.leaf in
    let leaves : List (Path × Duals) = leaves_of (carried_tree I t) in
    let row : Held = c.index-row.result.now in
    let kept_rows = used_are c.self.inside c.self.invariant b c.self.view_is in
    let within : k < length b.leaves = omega (arith, kept_rows) in
    let sums : row.sums ≡ sums_at b k = leaf_is c.self.inside c.self.invariant b c.self.view_is k row within c.index-row.ensures in
    let l : Path × Duals = get_or leaves k ([], no_duals) in
    let here : slice_get leaves k ≡ Some l = slice_get-get_or leaves k ([], no_duals) (omega (arith, within, leaf_count I t b c.requires c.nodes.ensures.tree target)) in
    let bound = kept c.bound.result MAX_BOUND c.bound.ensures.small (omega arith) ∙ c.bound.ensures.exact ∙ ap (λ (s : LeafSums). s.bound) sums in
    let is : IsTrue c.closes.result ↔ LeafCloses I l.0 l.1 target = told I t b c.requires c.nodes.ensures.tree target k l here c.closes.result _ _ bound (c.q.ensures.exact ∙ ap (λ (s : LeafSums). s.q) sums) c.closes.ensures in
    let items : c.push.new.self.items ≡ held ++ c.closes.result ∷ [] = c.in_ok-push.ensures.items in
    let at : slice_get leaves n ≡ Some l = ap (slice_get leaves) inv.len ∙ here in
    record {
      len = omega (arith, ap length items, length-append held (c.closes.result ∷ []), inv.len);
      told = subst (λ (v : List Bool). (j : ℕ) → IfSome (slice_get v j) (λ h. IfSome (slice_get leaves j) (λ a. IsTrue h ↔ LeafCloses I a.0 a.1 target))) (sym items)
          (told_more (λ (a : Path × Duals). LeafCloses I a.0 a.1 target) held leaves c.closes.result l at is inv.told);
    }

pub returns : goal.returns
returns c =
    let I = c.args.inst.now in
    let t = c.args.tree.now in
    let b = c.args.self.now in
    let kept_rows = used_are c.self.inside c.self.invariant b c.self.view_is in
    let all = leaf_count I t b c.requires c.nodes.ensures.tree c.args.target in
    record { len = omega (arith, c.loop-leaf.invariant.len, kept_rows, all); each = c.loop-leaf.invariant.told }
