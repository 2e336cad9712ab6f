use Rattle.std.proofs.Common.{◌≡◌, ◌⊎◌, ◌+◌, [], ◌++◌, length}
use Rattle.std.specs.Prelude.{⊤}
use Rattle.shelf_port.specs.Files.{HasFile, NeverFalls}
use Rattle.shelf_lines.specs.Line.{IsLine}
use Rattle.shelf_lines.specs.Rest.{ForFile, rest_of, unread}
use Rattle.shelf_lines.proofs.reader.LineReader.next.Given as goal

abbrev pub invariant-loop-self : goal.invariant-loop-self
invariant-loop-self g l = record {
  rest : ForFile (g.H.Shelf.files l.fn.shelf) l.name (λ file. rest_of l.fn.self file ≡ l.self.line ++ rest_of l.self file);
  is_line : IsLine l.self.line;
  there : l.fn.self.ahead ≡ [] → (l.self.ahead ≡ []) ⊎ HasFile (g.H.Shelf.files l.fn.shelf) l.name (λ _. ⊤);
  unread : unread l.fn.self ≡ length l.self.line + unread l.self;
  same_limit : l.self.limit ≡ l.fn.self.limit;
  unchanged : g.H.Shelf.files l.shelf ≡ g.H.Shelf.files l.fn.shelf;
  reads : NeverFalls (g.H.Shelf.read_faults l.fn.shelf) (g.H.Shelf.read_faults l.shelf);
  writes : NeverFalls (g.H.Shelf.write_faults l.fn.shelf) (g.H.Shelf.write_faults l.shelf);
}

abbrev pub decreases-loop-self : goal.decreases-loop-self
decreases-loop-self g l = unread l.self
