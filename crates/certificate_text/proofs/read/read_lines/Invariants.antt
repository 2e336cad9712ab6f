use Rattle.std.proofs.Common.{◌≡◌, ℕ, []}
use Rattle.shelf_port.specs.Files.{NeverFalls}
use Rattle.shelf_lines.specs.Rest.{unread}
use Rattle.certificate_reader.specs.Behind.{IsBehind}
use Rattle.certificate_text.proofs.Reading.{HasKept}
use Rattle.certificate_text.proofs.read.read_lines.Given as goal

abbrev pub invariant-loop-kept : goal.invariant-loop-kept
invariant-loop-kept g l = record {
  kept : (limit : ℕ) → IsBehind (g.H.Shelf.files l.fn.shelf) l.name limit l.inst [] l.fn.reader → HasKept (g.H.Shelf.files l.fn.shelf) l.name limit l.inst l.reader l.kept;
  unchanged : g.H.Shelf.files l.shelf ≡ g.H.Shelf.files l.fn.shelf;
  reads : NeverFalls (g.H.Shelf.read_faults l.fn.shelf) (g.H.Shelf.read_faults l.shelf);
  writes : NeverFalls (g.H.Shelf.write_faults l.fn.shelf) (g.H.Shelf.write_faults l.shelf);
}

abbrev pub decreases-loop-kept : goal.decreases-loop-kept
decreases-loop-kept g l = unread l.reader.lines
