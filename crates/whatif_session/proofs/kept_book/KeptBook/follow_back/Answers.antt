use Rattle.std.proofs.Common.{ap}
use Rattle.std.specs.Option.{option_copied}
use Rattle.whatif_session.proofs.Booked.{behind_by}
use Rattle.whatif_session.proofs.kept_book.KeptBook.follow_back.Goals as goal

pub undone-requires-clause-book : goal.undone-requires-clause-book
undone-requires-clause-book c =
    behind_by c.args.self.now.book c.in-Some-book.book c.args.inst.now c.args.change (option_copied c.args.tree) c.in-Some.tree.now c.in-Some-book.is (ap option_copied c.in-Some.is) c.requires.book
