use Rattle.std.proofs.Common.{◌≡◌, ◌+◌, ◌≤◌, ◌++◌, length}
use Rattle.shelf_port.specs.Streams.{with_front}
use Rattle.shelf_lines.specs.Rest.{unread}
use Rattle.shelf_lines.specs.Line.{IsLine}
use Rattle.shelf_lines.proofs.reader.LineReader.next_of.Given as goal

abbrev pub invariant-loop-self : goal.invariant-loop-self
invariant-loop-self g l = record {
  rest : with_front l.fn.self.ahead (g.S.Source.left l.fn.source) ≡ with_front (l.self.line ++ l.self.ahead) (g.S.Source.left l.source);
  is_line : IsLine l.self.line;
  short : length l.self.line ≤ l.most;
  unread : unread l.fn.self ≡ length l.self.line + unread l.self;
  counts : g.S.Source.faults l.fn.source ≤ g.S.Source.faults l.source;
}

abbrev pub decreases-loop-self : goal.decreases-loop-self
decreases-loop-self g l = unread l.self
