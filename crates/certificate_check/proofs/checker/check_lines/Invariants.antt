use Rattle.std.proofs.Common.{◌≡◌, ℕ, []}
use Rattle.shelf_port.specs.Files.{NeverFalls}
use Rattle.shelf_lines.specs.Rest.{unread}
use Rattle.certificate_reader.specs.Behind.{IsBehind}
use Rattle.certificate_check.proofs.Answers.{HasStood}
use Rattle.certificate_check.proofs.checker.check_lines.Given as goal

abbrev pub invariant-loop-bounds : goal.invariant-loop-bounds
invariant-loop-bounds g l = record {
  stood : (limit : ℕ) → IsBehind (g.H.Shelf.files l.fn.shelf) l.name limit l.inst [] l.fn.reader → HasStood (g.H.Shelf.files l.fn.shelf) l.name limit l.inst l.reader;
  bounds : l.bounds ≡ l.inst;
  unchanged : g.H.Shelf.files l.shelf ≡ g.H.Shelf.files l.fn.shelf;
  reads : NeverFalls (g.H.Shelf.read_faults l.fn.shelf) (g.H.Shelf.read_faults l.shelf);
  writes : NeverFalls (g.H.Shelf.write_faults l.fn.shelf) (g.H.Shelf.write_faults l.shelf);
}

abbrev pub decreases-loop-bounds : goal.decreases-loop-bounds
decreases-loop-bounds g l = unread l.reader.lines
