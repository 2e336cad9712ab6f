use Rattle.leaf_book.proofs.Books.{same_book, room_behind}
use Rattle.leaf_book.proofs.Differing.{edited_size}
use Rattle.leaf_book.proofs.book.LeafBook.make_room.Goals as goal

pub returns-in_err-widen-clause-book : goal.returns-in_err-widen-clause-book
returns-in_err-widen-clause-book c = let e = c.in_err-widen.ensures in same_book c.args.self.now c.widen.new.self c.args.inst.now c.args._tree.now e.places e.leaves e.lo e.hi c.requires

pub returns-clause-book : goal.returns-clause-book
returns-clause-book c = let e = c.in_ok-widen.ensures in same_book c.args.self.now c.widen.new.self c.args.inst.now c.args._tree.now e.places e.leaves e.lo e.hi c.requires

pub returns-clause-room : goal.returns-clause-room
returns-clause-room c = λ J made. let e = c.in_ok-widen.ensures in room_behind c.widen.new.self c.args.inst.now J (edited_size c.args.inst.now J c.args._edit.now made) e.sites e.customers
