use Rattle.leaf_book.proofs.Books.{same_book, room_behind}
use Rattle.leaf_book.proofs.Differing.{put_back_size}
use Rattle.instance_edits.specs.Undo.{put_back}
use Rattle.leaf_book.proofs.book.LeafBook.make_room_back.Goals as goal

pub returns-in_err-widen-clause-book : goal.returns-in_err-widen-clause-book
returns-in_err-widen-clause-book c = let e = c.in_err-widen.ensures in same_book c.args.self.now c.widen.new.self c.args.inst.now c.args._tree.now e.places e.leaves e.lo e.hi c.requires

pub returns-clause-book : goal.returns-clause-book
returns-clause-book c = let e = c.in_ok-widen.ensures in same_book c.args.self.now c.widen.new.self c.args.inst.now c.args._tree.now e.places e.leaves e.lo e.hi c.requires

pub returns-clause-room : goal.returns-clause-room
returns-clause-room c = let e = c.in_ok-widen.ensures in room_behind c.widen.new.self c.args.inst.now (put_back c.args.inst.now c.args._back.now) (put_back_size c.args.inst.now c.args._back.now) e.sites e.customers
