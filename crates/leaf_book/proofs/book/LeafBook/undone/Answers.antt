use Rattle.std.proofs.Common.{sym, subst}
use Rattle.location_terms.specs.Instance.{Instance, IsValid}
use Rattle.leaf_book.specs.declared.change.Change.{Change}
use Rattle.leaf_book.specs.BookDue.{IsBookDue}
use Rattle.leaf_book.specs.Changes.{DifferBy, change_back}
use Rattle.leaf_book.proofs.Differing.{differs_forth, book_due}
use Rattle.leaf_book.proofs.book.LeafBook.undone.Goals as goal

pub follow-requires-clause-due : goal.follow-requires-clause-due
follow-requires-clause-due c =
    let was = c.requires.book in
    let I = c.args.inst.now in
    let t = c.args.tree.now in
    let b = c.args.self.now in
    subst (λ (change : Change). IsBookDue change I t b) was.3
    (book_due (change_back was.0 was.1) I was.0 t b (subst (λ (J : Instance). DifferBy (change_back was.0 was.1) J was.0) was.4 (differs_forth was.0 was.1 (subst IsValid (sym was.4) c.sites-valid.ensures.valid))) was.2)
