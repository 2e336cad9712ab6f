use Rattle.std.proofs.Common.{sym, subst}
use Rattle.leaf_book.specs.declared.change.Change.{Change}
use Rattle.instance_edits.specs.Undo.{put_back}
use Rattle.leaf_book.specs.BookDue.{IsBookDue}
use Rattle.leaf_book.specs.Changes.{change_of}
use Rattle.leaf_book.proofs.Differing.{differs_back, book_due}
use Rattle.leaf_book.proofs.book.LeafBook.edited.Goals as goal

pub follow-requires-clause-due : goal.follow-requires-clause-due
follow-requires-clause-due c =
    let I = c.args.inst.now in
    let t = c.args.tree.now in
    let back = c.args.back.now in
    let b = c.args.self.now in
    subst (λ (change : Change). IsBookDue change I t b) (sym c.of.ensures) (book_due (change_of back) I (put_back I back) t b (differs_back I back) c.requires.book)
