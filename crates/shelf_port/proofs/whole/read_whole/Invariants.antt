use Rattle.std.proofs.Common.{◌≡◌, ◌-◌, ◌≤◌, vec_len}
use Rattle.shelf_port.specs.Files.{NeverFalls}
use Rattle.shelf_port.proofs.Reading.{ReadSoFar}
use Rattle.shelf_port.proofs.whole.read_whole.Given as goal

abbrev pub invariant-loop-content : goal.invariant-loop-content
invariant-loop-content g l =
    (vec_len l.content ≤ l.limit)
    × ReadSoFar (g.H.Shelf.files l.fn.shelf) l.name l.content.items
    × (g.H.Shelf.files l.shelf ≡ g.H.Shelf.files l.fn.shelf)
    × NeverFalls (g.H.Shelf.read_faults l.fn.shelf) (g.H.Shelf.read_faults l.shelf)
    × NeverFalls (g.H.Shelf.write_faults l.fn.shelf) (g.H.Shelf.write_faults l.shelf)

abbrev pub decreases-loop-content : goal.decreases-loop-content
decreases-loop-content g l = l.limit - vec_len l.content
