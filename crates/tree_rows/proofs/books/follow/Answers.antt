use Rattle.std.proofs.Common.{sym, subst}
use Rattle.location_terms.specs.Instance.{Instance}
use Rattle.leaf_book.specs.Book.{IsBookOf}
use Rattle.leaf_book.proofs.Differing.{undone_is, leads_to}
use Rattle.tree_rows.proofs.books.follow.Goals as goal

pub edited-requires-clause-book : goal.edited-requires-clause-book
edited-requires-clause-book c =
    subst (λ (I : Instance). IsBookOf c.make_room.new.self I c.args.tree.now) (sym (undone_is c.apply.new.inst c.args.inst.now c.in_ok-back.back c.in_ok-back.ensures.back)) c.in_ok-make_room.ensures.book

pub edited-requires-clause-room : goal.edited-requires-clause-room
edited-requires-clause-room c = c.in_ok-make_room.ensures.room c.apply.new.inst c.in_ok-back.ensures.made

pub returns-clause-leads : goal.returns-clause-leads
returns-clause-leads c = leads_to c.apply.new.inst c.args.inst.now c.in_ok-back.back c.in_ok-back.ensures.back c.sites-valid.ensures.valid
