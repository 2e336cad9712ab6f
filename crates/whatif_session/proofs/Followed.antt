-- A line that was followed, by what its part has done.
use Rattle.std.proofs.Common.{◌≡◌, ◌⊎◌, ℕ, ◌+◌, ◌≤◌, Bool, true, false, List, [], Option, None, Some, refl, sym, ap, subst, ◌∙◌, inl, arith}
use Rattle.std.specs.Prelude.{Result, Ok, Err, IfOk, OnOk, OnErr}
use Rattle.shelf_port.specs.Files.{NeverFalls, Files}
use Rattle.shelf_port.specs.Ports.{ShelfState}
use Rattle.session_lines.specs.declared.fault.SessionFault.TheVariants as fault
use Rattle.session_lines.specs.Lines.{SessionLine, Blank, Quit, session_line, quits}
use Rattle.session_lines.specs.Replies.{refusal_text}
use Rattle.whatif_session.specs.State.{SessionView, last_serial, IsPresent}
use Rattle.whatif_session.specs.Step.{SessionStep, moment_at}
use Rattle.whatif_session.specs.Run.{due_file}
use Rattle.whatif_session.specs.Calls.{IsDueLeft, IsLeftOver}
use Rattle.whatif_session.specs.Shown.{Replied}
use Rattle.whatif_session.specs.Done.{HasDone, HasDoneAlone, IsFollowed}

no_fall : (counts : List ℕ → ℕ) → NeverFalls counts counts
no_fall counts name = omega arith

module _ {E : Type 0} where
  -- a line that leaves the shelf alone
  pub alone : (line : Option SessionLine) (p q : SessionView) (shelf : ShelfState) (r : Result Replied E) → IfOk r (λ reply. HasDoneAlone line p reply q) → OnErr r (q ≡ p) → IsFollowed line p shelf r q shelf
  alone line p q shelf (Ok reply) done kept = record { outcome = done shelf; reads = no_fall shelf.reads; writes = no_fall shelf.writes }
  alone line p q shelf (Err e) done kept = record { outcome = (kept, inl refl); reads = no_fall shelf.reads; writes = no_fall shelf.writes }

  pub same : (r : Result Replied E) (p : SessionView) → OnErr r (p ≡ p)
  same (Ok reply) p = tt
  same (Err e) p = refl

  -- a line that leaves the session alone
  pub filed : (line : Option SessionLine) (p : SessionView) (before after : ShelfState) (r : Result Replied E) → IfOk r (λ reply. HasDone line p before reply p after) → OnErr r (IsDueLeft (due_file p.instance p.state line) before.files after.files)
      → NeverFalls before.reads after.reads → NeverFalls before.writes after.writes → IsFollowed line p before r p after
  filed line p before after (Ok reply) done left reads writes = record { outcome = done; reads = reads; writes = writes }
  filed line p before after (Err e) done left reads writes = record { outcome = (refl, left); reads = reads; writes = writes }

  -- a line of no command, of no words, and one that ends the session
  pub unread : (p : SessionView) (shelf : ShelfState) (r : Result Replied E) → IfOk r (λ reply. reply ≡ record { text = refusal_text fault.BadCommand; ended = false }) → IsFollowed None p shelf r p shelf
  unread p shelf (Ok reply) is = record {
    outcome = record { does = record { reply_is = λ i. (is i).text; left = refl; files = refl }; ended = λ i. (is i).ended; serial = omega arith };
    reads = no_fall shelf.reads;
    writes = no_fall shelf.writes;
  }
  unread p shelf (Err e) is = record { outcome = (refl, inl refl); reads = no_fall shelf.reads; writes = no_fall shelf.writes }

  pub blank : (p : SessionView) (shelf : ShelfState) (reply : Replied) → reply ≡ record { text = []; ended = false } → IsFollowed {E = E} (Some Blank) p shelf (Ok reply) p shelf
  blank p shelf reply is = record {
    outcome = record { does = record { reply_is = λ i. (is i).text; left = refl; files = refl }; ended = λ i. (is i).ended; serial = omega arith };
    reads = no_fall shelf.reads;
    writes = no_fall shelf.writes;
  }

  pub quit : (p : SessionView) (shelf : ShelfState) (reply : Replied) → reply ≡ record { text = []; ended = true } → IsFollowed {E = E} (Some Quit) p shelf (Ok reply) p shelf
  quit p shelf reply is = record {
    outcome = record { does = record { reply_is = λ i. (is i).text; left = refl; files = refl }; ended = λ i. (is i).ended; serial = omega arith };
    reads = no_fall shelf.reads;
    writes = no_fall shelf.writes;
  }

  -- What a step says of a line that was followed.
  module _ (line : List ℕ) (p q : SessionView) (before after : ShelfState) where
    pub steps : (r : Result Replied E) → IsPresent p.state p.instance → IsFollowed (session_line line) p before r q after → IfOk r (λ reply. SessionStep (moment_at p.state before) line reply.text (moment_at q.state after))
    steps (Ok reply) present followed = record { instance = p.instance; present = present; does = followed.outcome.does; counts = followed.writes }
    steps (Err e) present followed = tt

    pub ends : (r : Result Replied E) → IsFollowed (session_line line) p before r q after → IfOk r (λ reply. reply.ended ≡ quits line)
    ends (Ok reply) followed = followed.outcome.ended
    ends (Err e) followed = tt

    pub counts : (r : Result Replied E) → IsFollowed (session_line line) p before r q after → OnOk r (last_serial q.state ≤ last_serial p.state + 1)
    counts (Ok reply) followed = followed.outcome.serial
    counts (Err e) followed = tt

    pub keeps : (r : Result Replied E) → IsFollowed (session_line line) p before r q after → OnErr r (q ≡ p)
    keeps (Ok reply) followed = tt
    keeps (Err e) followed = followed.outcome.0

    pub leaves : (r : Result Replied E) → IsFollowed (session_line line) p before r q after → OnErr r (IsLeftOver p line before.files after.files)
    leaves (Ok reply) followed = tt
    leaves (Err e) followed = followed.outcome.1
