-- For private functions alone: no public contract cites this page.
-- What a line that was followed has done.
use Rattle.std.specs.Prelude.{◌≡◌, ◌+◌, ◌≤◌, Option, Result, MatchResult}
use Rattle.shelf_port.specs.Files.{NeverFalls}
use Rattle.shelf_port.specs.Ports.{ShelfState}
use Rattle.session_lines.specs.Lines.{SessionLine, asks_to_quit}
use Rattle.whatif_session.specs.State.{SessionView, last_serial}
use Rattle.whatif_session.specs.Step.{Does, moment_at}
use Rattle.whatif_session.specs.Run.{due_file}
use Rattle.whatif_session.specs.Calls.{IsDueLeft}
use Rattle.whatif_session.specs.Shown.{Replied}

-- between two states of the shelf, the session did what the line asks for, and replied so
pub record HasDone (line : Option SessionLine) (old : SessionView) (before : ShelfState) (reply : Replied) (new : SessionView) (after : ShelfState) : Type 0 where
  pub does : Does old.instance line (moment_at old.state before) reply.text (moment_at new.state after)
  pub ended : reply.ended ≡ asks_to_quit line
  pub serial : last_serial new.state ≤ last_serial old.state + 1

-- the same of a line that leaves the shelf alone
abbrev pub HasDoneAlone : Option SessionLine → SessionView → Replied → SessionView → Type 0
HasDoneAlone line old reply new = (shelf : ShelfState) → HasDone line old shelf reply new shelf

-- the line was followed, or memory ran out and the session is as before
pub record IsFollowed {E : Type 0} (line : Option SessionLine) (old : SessionView) (before : ShelfState) (result : Result Replied E) (new : SessionView) (after : ShelfState) : Type 0 where
  pub outcome : MatchResult result (λ reply. HasDone line old before reply new after)
      (λ _. (new ≡ old) × IsDueLeft (due_file old.instance old.state line) before.files after.files)
  pub reads : NeverFalls before.reads after.reads
  pub writes : NeverFalls before.writes after.writes
