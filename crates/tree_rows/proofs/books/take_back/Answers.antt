use Rattle.std.proofs.Common.{sym, subst}
use Rattle.leaf_book.specs.Book.{HasRoomFor}
use Rattle.leaf_book.proofs.Differing.{undone_is}
use Rattle.tree_rows.proofs.books.take_back.Goals as goal

pub undone-requires-clause-book : goal.undone-requires-clause-book
undone-requires-clause-book c = (c.args.inst.now, c.args.back, c.in_ok-make_room_back.ensures.book, sym c.of_undo-change.ensures, undone_is c.args.inst.now c.undo.new.inst c.args.back c.in-Ok.ensures.undone)

pub undone-requires-clause-room : goal.undone-requires-clause-room
undone-requires-clause-room c = subst (HasRoomFor c.make_room_back.new.self) (undone_is c.args.inst.now c.undo.new.inst c.args.back c.in-Ok.ensures.undone) c.in_ok-make_room_back.ensures.room
