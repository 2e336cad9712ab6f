use Rattle.std.proofs.Common.{◌≡◌, Bool, true, false, ap, sym, ◌∙◌, List, [], ◌∷◌, map, length}
use Rattle.std.specs.Prelude.{if◌then◌else◌}
use Rattle.std.proofs.lemmas.List.{take_more_set}
use Rattle.location_terms.specs.Tree.{leaves_of}
use Rattle.leaf_book.specs.Sums.{LeafSums}
use Rattle.leaf_book.specs.Kept.{kept_leaves, are_too_many_leaves, root_sums, carried_sums}
use Rattle.leaf_book.specs.Rows.{Held}
use Rattle.leaf_book.proofs.Placed.{kept_places}
use Rattle.leaf_book.proofs.rows.follow_rows.Goals as goal

pub follow_root-requires-clause-due : goal.follow_root-requires-clause-due
follow_root-requires-clause-due c =
    let x = c.args.course.now in
    let large : are_too_many_leaves x.inst.now (length (kept_leaves x.inst.now (leaves_of x.tree.now))) ≡ true =
    ap (are_too_many_leaves x.inst.now) (sym (c.count_kept-kept.ensures ∙ kept_places x.inst.now x.tree.now x.places.now (leaves_of x.tree.now) c.requires.course.places)) ∙ sym c.are_too_many.ensures ∙ c.if-are_too_many.true in
    c.requires.due.root large c.index-rows-0.result

pub returns-then-are_too_many-clause-sums : goal.returns-then-are_too_many-clause-sums
returns-then-are_too_many-clause-sums c =
    let x = c.args.course.now in
    let I = x.inst.now in
    let t = x.tree.now in
    let large : are_too_many_leaves I (length (kept_leaves I (leaves_of t))) ≡ true =
    ap (are_too_many_leaves I) (sym (c.count_kept-kept.ensures ∙ kept_places I t x.places.now (leaves_of t) c.requires.course.places)) ∙ sym c.are_too_many.ensures ∙ c.if-are_too_many.true in
    ap (λ (rows : List Held). map (λ r. r.sums) rows) (take_more_set c.args.rows.now 0 c.follow_root.new.row c.requires.due.some)
    ∙ ap (λ (s : LeafSums). s ∷ []) c.follow_root.ensures.sums
    ∙ sym (ap (λ (b : Bool). if b then root_sums I ∷ [] else map (carried_sums I t) (kept_leaves I (leaves_of t))) large)

pub follow_leaves-requires-clause-due : goal.follow_leaves-requires-clause-due
follow_leaves-requires-clause-due c =
    let x = c.args.course.now in
    let small : are_too_many_leaves x.inst.now (length (kept_leaves x.inst.now (leaves_of x.tree.now))) ≡ false =
    ap (are_too_many_leaves x.inst.now) (sym (c.count_kept-kept.ensures ∙ kept_places x.inst.now x.tree.now x.places.now (leaves_of x.tree.now) c.requires.course.places)) ∙ sym c.are_too_many.ensures ∙ c.if-are_too_many.false in
    c.requires.due.leaves small

pub returns-clause-sums : goal.returns-clause-sums
returns-clause-sums c =
    let x = c.args.course.now in
    let I = x.inst.now in
    let t = x.tree.now in
    let small : are_too_many_leaves I (length (kept_leaves I (leaves_of t))) ≡ false =
    ap (are_too_many_leaves I) (sym (c.count_kept-kept.ensures ∙ kept_places I t x.places.now (leaves_of t) c.requires.course.places)) ∙ sym c.are_too_many.ensures ∙ c.if-are_too_many.false in
    c.follow_leaves.ensures.sums ∙ sym (ap (λ (b : Bool). if b then root_sums I ∷ [] else map (carried_sums I t) (kept_leaves I (leaves_of t))) small)
