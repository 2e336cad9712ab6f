use Rattle.std.proofs.Common.{◌≤◌, ◌∷◌, [], ap, sym, subst, arith, length, length-append}
use Rattle.std.specs.Prelude.{All}
use Rattle.std.proofs.lemmas.List.Elements.{All-append, All-cons, All-nil}
use Rattle.leaf_book.specs.Rows.{Held}
use Rattle.leaf_book.proofs.rows.fresh_rows.Goals as goal

pub loop-leaf-preserved : goal.loop-leaf-preserved
loop-leaf-preserved c =
    let P : Held → Type 0 = λ row. c.args.sites ≤ row.room in
    let items = c.in_ok-push.ensures.items in
    record {
      count = omega (arith, ap length items, length-append c.loop-leaf.rows.items (c.in_ok-with_room.field-0 ∷ []), c.loop-leaf.invariant.count);
      room = subst (All P) (sym items) (All-append P c.loop-leaf.rows.items (c.in_ok-with_room.field-0 ∷ []) c.loop-leaf.invariant.room (All-cons P c.in_ok-with_room.field-0 [] c.in_ok-with_room.ensures (All-nil P)));
    }
