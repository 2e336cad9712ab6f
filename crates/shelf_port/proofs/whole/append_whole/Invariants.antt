use Rattle.std.proofs.Common.{◌≡◌, ◌-◌, ◌≤◌, length, take}
use Rattle.shelf_port.specs.Files.{with_added, NeverFalls}
use Rattle.shelf_port.proofs.whole.append_whole.Given as goal

abbrev pub invariant-loop-done : goal.invariant-loop-done
invariant-loop-done g l =
    (l.done ≤ length l.bytes)
    × (g.H.Shelf.files l.shelf ≡ with_added (g.H.Shelf.files l.fn.shelf) l.name (take l.done l.bytes))
    × NeverFalls (g.H.Shelf.read_faults l.fn.shelf) (g.H.Shelf.read_faults l.shelf)
    × NeverFalls (g.H.Shelf.write_faults l.fn.shelf) (g.H.Shelf.write_faults l.shelf)

abbrev pub decreases-loop-done : goal.decreases-loop-done
decreases-loop-done g l = length l.bytes - l.done
