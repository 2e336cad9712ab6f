use Rattle.std.proofs.Common.{◌≤◌, List, ℕ, length, sym, ap, subst, inr, arith}
use Rattle.std.specs.List.{position_or_len}
use Rattle.shelf_lines.specs.Line.{is_line_feed, IsLine}
use Rattle.shelf_lines.proofs.Steps.{still_line, unread_goes_on, not_below}
use Rattle.shelf_lines.proofs.InputSteps.{looked, told_ended, told_goes_on, still_short, long_line, long_within, nothing_ahead, limit_by_feed}
use Rattle.shelf_lines.proofs.reader.LineReader.next_of.Goals as goal

pub returns-then-passes-clause-line_too_long : goal.returns-then-passes-clause-line_too_long
returns-then-passes-clause-line_too_long g c =
    λ _.
    long_line _ _ _ c.peek_of.new.self
    (looked _ _ _ c.loop-self.self c.peek_of.new.self c.in_ok-peek_of.ensures.same_line c.in_ok-peek_of.ensures.rest c.loop-self.invariant.rest)
    (subst (λ (l : List ℕ). IsLine l) (sym c.in_ok-peek_of.ensures.same_line) c.loop-self.invariant.is_line)
    (c.passes.ensures.0 c.if-passes.true)

pub returns-then-passes-clause-first : goal.returns-then-passes-clause-first
returns-then-passes-clause-first g c =
    λ _.
    long_within _ _ c.peek_of.new.self
    (omega (arith, c.loop-self.invariant.unread, c.in_ok-peek_of.ensures.unread, ap length c.in_ok-peek_of.ensures.same_line))
    (c.passes.ensures.0 c.if-passes.true)

pub returns-then-is_spent-clause-input_too_long : goal.returns-then-is_spent-clause-input_too_long
returns-then-is_spent-clause-input_too_long g c =
    λ _.
    record {
      spent = nothing_ahead c.take_to_feed.new.self (c.is_spent.ensures.0 c.if-is_spent.true);
      bytes = inr (
        limit_by_feed _ c.loop-self.self c.peek_of.new.self c.take_to_feed.new.self c.loop-self.invariant.unread c.in_ok-peek_of.ensures.unread c.in_ok-peek_of.ensures.same_line
            c.in_ok-take_to_feed-in-Bytes.ensures.took (c.in_ok-take_to_feed-in-Bytes.ensures.found.0 c.if-branch.true) (c.is_spent.ensures.0 c.if-is_spent.true),
        told_ended _ _ c.peek_of.new.self c.take_to_feed.new.self c.in_ok-take_to_feed-in-Bytes.ensures.took (c.in_ok-take_to_feed-in-Bytes.ensures.found.0 c.if-branch.true)
            (looked _ _ _ c.loop-self.self c.peek_of.new.self c.in_ok-peek_of.ensures.same_line c.in_ok-peek_of.ensures.rest c.loop-self.invariant.rest),
      );
    }

pub returns-then-is_spent-clause-is_line : goal.returns-then-is_spent-clause-is_line
returns-then-is_spent-clause-is_line g c =
    still_line _ _ c.in_ok-take_to_feed-in-Bytes.ensures.took (subst (λ (l : List ℕ). IsLine l) (sym c.in_ok-peek_of.ensures.same_line) c.loop-self.invariant.is_line)

pub returns-then-branch-clause-line : goal.returns-then-branch-clause-line
returns-then-branch-clause-line g c =
    λ _.
    told_ended _ _ c.peek_of.new.self c.take_to_feed.new.self c.in_ok-take_to_feed-in-Bytes.ensures.took (c.in_ok-take_to_feed-in-Bytes.ensures.found.0 c.if-branch.true)
    (looked _ _ _ c.loop-self.self c.peek_of.new.self c.in_ok-peek_of.ensures.same_line c.in_ok-peek_of.ensures.rest c.loop-self.invariant.rest)

pub returns-then-branch-clause-is_line : goal.returns-then-branch-clause-is_line
returns-then-branch-clause-is_line g c =
    still_line _ _ c.in_ok-take_to_feed-in-Bytes.ensures.took (subst (λ (l : List ℕ). IsLine l) (sym c.in_ok-peek_of.ensures.same_line) c.loop-self.invariant.is_line)

pub loop-self-preserved : goal.loop-self-preserved
loop-self-preserved g c =
    let none : length c.peek_of.new.self.ahead ≤ position_or_len is_line_feed c.peek_of.new.self.ahead = not_below _ _ _ c.if-branch.false c.in_ok-take_to_feed-in-Bytes.ensures.found.1 in
    record {
      rest =
          told_goes_on _ _ c.peek_of.new.self c.take_to_feed.new.self c.in_ok-take_to_feed-in-Bytes.ensures.took none
          (looked _ _ _ c.loop-self.self c.peek_of.new.self c.in_ok-peek_of.ensures.same_line c.in_ok-peek_of.ensures.rest c.loop-self.invariant.rest);
      is_line = still_line _ _ c.in_ok-take_to_feed-in-Bytes.ensures.took (subst (λ (l : List ℕ). IsLine l) (sym c.in_ok-peek_of.ensures.same_line) c.loop-self.invariant.is_line);
      short = still_short _ c.peek_of.new.self c.take_to_feed.new.self c.in_ok-take_to_feed-in-Bytes.ensures.took (not_below _ _ _ c.if-passes.false c.passes.ensures.1);
      unread = omega (arith, unread_goes_on _ _ c.in_ok-take_to_feed-in-Bytes.ensures.took none, c.in_ok-peek_of.ensures.unread, ap length c.in_ok-peek_of.ensures.same_line, c.loop-self.invariant.unread);
      counts = omega (arith, c.in_ok-peek_of.ensures.counts, c.loop-self.invariant.counts);
    }
