use Rattle.std.proofs.Common.{◌≤◌, List, ℕ, length, sym, ap, ◌∙◌, subst, inr, arith}
use Rattle.std.specs.List.{position_or_len}
use Rattle.shelf_lines.specs.Line.{is_line_feed, IsLine}
use Rattle.shelf_lines.proofs.Told.{found_there}
use Rattle.shelf_lines.proofs.Steps.{line_ended, line_goes_on, still_line, unread_goes_on, not_below, looked_ahead}
use Rattle.shelf_lines.proofs.reader.LineReader.next.Goals as goal

pub returns-then-branch-clause-line : goal.returns-then-branch-clause-line
returns-then-branch-clause-line g c =
    λ _ files is file there.
    line_ended _ file _ _ c.in_ok-take_to_feed-in-Bytes.ensures.took (c.in_ok-take_to_feed-in-Bytes.ensures.found.0 c.if-branch.true)
    (looked_ahead _ file _ _ c.in_ok-peek.ensures.same_line (c.in_ok-peek.ensures.rest files (c.loop-self.invariant.unchanged ∙ is) file there) (c.loop-self.invariant.rest files is file there))

pub returns-then-branch-clause-is_line : goal.returns-then-branch-clause-is_line
returns-then-branch-clause-is_line g c =
    still_line _ _ c.in_ok-take_to_feed-in-Bytes.ensures.took (subst (λ (l : List ℕ). IsLine l) (sym c.in_ok-peek.ensures.same_line) c.loop-self.invariant.is_line)

pub returns-then-branch-clause-there : goal.returns-then-branch-clause-there
returns-then-branch-clause-there g c =
    λ none. found_there _ _ _ _ c.loop-self.invariant.unchanged (c.loop-self.invariant.there none) c.in_ok-peek.ensures.there

pub loop-self-preserved : goal.loop-self-preserved
loop-self-preserved g c =
    let none : length c.peek.new.self.ahead ≤ position_or_len is_line_feed c.peek.new.self.ahead = not_below _ _ _ c.if-branch.false c.in_ok-take_to_feed-in-Bytes.ensures.found.1 in
    record {
      rest = λ files is file there.
          line_goes_on _ file _ _ c.in_ok-take_to_feed-in-Bytes.ensures.took none
          (looked_ahead _ file _ _ c.in_ok-peek.ensures.same_line (c.in_ok-peek.ensures.rest files (c.loop-self.invariant.unchanged ∙ is) file there) (c.loop-self.invariant.rest files is file there));
      is_line = still_line _ _ c.in_ok-take_to_feed-in-Bytes.ensures.took (subst (λ (l : List ℕ). IsLine l) (sym c.in_ok-peek.ensures.same_line) c.loop-self.invariant.is_line);
      there = λ none. inr (found_there _ _ _ _ c.loop-self.invariant.unchanged (c.loop-self.invariant.there none) c.in_ok-peek.ensures.there);
      unread = omega (arith, unread_goes_on _ _ c.in_ok-take_to_feed-in-Bytes.ensures.took none, c.in_ok-peek.ensures.unread, ap length c.in_ok-peek.ensures.same_line, c.loop-self.invariant.unread);
      same_limit = c.in_ok-take_to_feed-in-Bytes.ensures.took.same_limit ∙ c.in_ok-peek.ensures.same_limit ∙ c.loop-self.invariant.same_limit;
      unchanged = c.in_ok-peek.ensures.unchanged ∙ c.loop-self.invariant.unchanged;
      reads = λ name. omega (arith, c.in_ok-peek.ensures.reads name, c.loop-self.invariant.reads name);
      writes = λ name. omega (arith, c.in_ok-peek.ensures.writes name, c.loop-self.invariant.writes name);
    }
