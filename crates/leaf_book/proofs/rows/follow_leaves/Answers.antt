use Rattle.std.proofs.Common.{ℕ, ◌<◌, ◌+◌, true, false, ap, sym, subst, ◌∙◌, arith, List, length, get_or}
use Rattle.std.specs.Prelude.{is_some}
use Rattle.std.proofs.lemmas.List.{get_or_default}
use Rattle.location_terms.specs.Instance.{Instance}
use Rattle.location_terms.specs.Box.{Path}
use Rattle.location_terms.specs.Bound.{Duals}
use Rattle.location_terms.specs.Tree.{Tree, leaves_of}
use Rattle.branch_tree.specs.Preorder.{no_duals}
use Rattle.leaf_book.specs.declared.places.LeafPlace.{LeafPlace}
use Rattle.leaf_book.specs.BookDue.{IsLeafDue}
use Rattle.leaf_book.specs.Kept.{keeps, carried_sums}
use Rattle.leaf_book.specs.Rows.{Held}
use Rattle.leaf_book.proofs.Following.{AreFollowed, followed_kept, followed_passed}
use Rattle.leaf_book.proofs.LeafDue.{row_there, row_due}
use Rattle.leaf_book.proofs.Placed.{places_count, duals_are, leaf_is, keep_is}
use Rattle.leaf_book.proofs.rows.follow_leaves.Goals.{then-keeps, else-keeps}
use Rattle.leaf_book.proofs.rows.follow_leaves.Goals as goal

pub bounds-rows-used : goal.bounds-rows-used
bounds-rows-used c =
    let x = c.args.course.now in
    let t = x.tree.now in
    let p : LeafPlace = c.index-course-k.result in
    let l : Path × Duals = (p.path, no_duals) in
    let inside : c.loop-k.k < length (leaves_of t) = omega (arith, places_count t x.places.now c.requires.course.places) in
    let keep = keep_is t x.places.now c.requires.course.places c.loop-k.k c.loop-k-test.true p l x.inst.now c.deref.result.now c.keeps.result true c.deref.ensures c.keeps.ensures c.if-keeps.true in
    row_there x.change x.count.0 x.count.1 x.inst.now t c.args.rows.now c.loop-k.rows c.loop-k.k c.loop-k.used c.requires.due c.loop-k.invariant inside l keep

pub follow_leaf-requires-clause-leaf : goal.follow_leaf-requires-clause-leaf
follow_leaf-requires-clause-leaf c =
    let x = c.args.course.now in
    let p : LeafPlace = c.index-course-k.result in
    ap is_some (duals_are x.tree.now x.places.now c.requires.course.places c.loop-k.k c.loop-k-test.true p (p.path, no_duals))

pub follow_leaf-requires-clause-due : goal.follow_leaf-requires-clause-due
follow_leaf-requires-clause-due c = λ d found.
    let x = c.args.course.now in
    let t = x.tree.now in
    let p : LeafPlace = c.index-course-k.result in
    let l : Path × Duals = (p.path, no_duals) in
    let inside : c.loop-k.k < length (leaves_of t) = omega (arith, places_count t x.places.now c.requires.course.places) in
    let keep = keep_is t x.places.now c.requires.course.places c.loop-k.k c.loop-k-test.true p l x.inst.now c.deref.result.now c.keeps.result true c.deref.ensures c.keeps.ensures c.if-keeps.true in
    subst (λ (a : Path × Duals). IsLeafDue x.change x.count.0 x.count.1 x.inst.now t a (get_or c.loop-k.rows c.loop-k.used c.index-rows-used.result)) (leaf_is t x.places.now c.requires.course.places c.loop-k.k c.loop-k-test.true p l d found)
    (row_due x.change x.count.0 x.count.1 x.inst.now t c.args.rows.now c.loop-k.rows c.loop-k.k c.loop-k.used c.requires.due c.loop-k.invariant inside l keep c.index-rows-used.result)

pub loop-k-preserved : goal.loop-k-preserved
loop-k-preserved c =
    let x = c.args.course.now in
    let I : Instance = x.inst.now in
    let t : Tree = x.tree.now in
    let k : ℕ = c.loop-k.k in
    let used : ℕ = c.loop-k.used in
    let rows : List Held = c.loop-k.rows in
    let old : List Held = c.args.rows.now in
    let p : LeafPlace = c.index-course-k.result in
    let l : Path × Duals = (p.path, no_duals) in
    let are = c.requires.course.places in
    let at = c.loop-k-test.true in
    let inside : k < length (leaves_of t) = omega (arith, places_count t x.places.now are) in
    let duals = duals_are t x.places.now are k at p l in
    elim c.if-keeps.branch [
      | then-keeps w ↦
          let keep = keep_is t x.places.now are k at p l I c.deref.result.now c.keeps.result true c.deref.ensures c.keeps.ensures w.if-keeps.true in
          let within : used < length rows = row_there x.change x.count.0 x.count.1 I t old rows k used c.requires.due c.loop-k.invariant inside l keep in
          let row : Held = w.follow_leaf.new.row in
          let sums = w.follow_leaf.ensures.sums (get_or (leaves_of t) k l).1 duals ∙ ap (carried_sums I t) (sym (leaf_is t x.places.now are k at p l (get_or (leaves_of t) k l).1 duals)) in
          let room = w.follow_leaf.ensures.room ∙ ap (λ (r : Held). r.room) (get_or_default rows used w.index-rows-used.result row within) in
          subst (λ (y : List Held × ℕ). AreFollowed (λ (a : Path × Duals). keeps I a.0) (carried_sums I t) (leaves_of t) (k + 1) old y.0 y.1) (λ i. (sym w.rows-is i, sym w.used-is i))
          (followed_kept (λ (a : Path × Duals). keeps I a.0) (carried_sums I t) (leaves_of t) old k l rows used inside c.loop-k.invariant row keep within sums room)
      | else-keeps w ↦
          let gone = keep_is t x.places.now are k at p l I c.deref.result.now c.keeps.result false c.deref.ensures c.keeps.ensures w.if-keeps.false in
          subst (λ (y : List Held × ℕ). AreFollowed (λ (a : Path × Duals). keeps I a.0) (carried_sums I t) (leaves_of t) (k + 1) old y.0 y.1) (λ i. (sym w.rows-is i, sym w.used-is i))
          (followed_passed (λ (a : Path × Duals). keeps I a.0) (carried_sums I t) (leaves_of t) old k l rows used inside c.loop-k.invariant gone)
    ]
