use Rattle.std.proofs.Common.{◌≡◌, length}
use Rattle.fixed_cost.specs.Reading.{behind_line, end_after}
use Rattle.fixed_cost.proofs.reader.WordReader.skip_line.Given as goal

-- the words of the line so far are passed over, and the end of the text stays
abbrev pub invariant-loop-next : goal.invariant-loop-next
invariant-loop-next l = record {
  rest : behind_line l.line l.self-inside.words ≡ behind_line l.line l.fn.self.left;
  end : end_after (l.self-inside.line, l.self-inside.place) l.self-inside.words ≡ l.fn.self.end;
}

abbrev pub decreases-loop-next : goal.decreases-loop-next
decreases-loop-next l = length l.self-inside.words
