-- What a line that ends a desk does.
use Rattle.std.proofs.Common.{◌≡◌, ℕ, true, List, [], Option, None, Some, refl, sym, ap, ◌∙◌}
use Rattle.std.proofs.lemmas.Bool.{false≢true}
use Rattle.session_lines.specs.Lines.{quits}
use Rattle.dualoc_cli.proofs.Quitting.{quit_step}
use Rattle.desk_session.specs.Lines.{KeeperLine, keeper_line}
use Rattle.desk_session.specs.State.{KeeperState, DeskMoment}
use Rattle.desk_session.specs.Step.{DeskDoes, DeskStep}
use Rattle.desk_session.proofs.Quitting.{asked_goes_on}

does_quit : (old new : DeskMoment) (line reply : List ℕ) (asked : Option KeeperLine) → keeper_line line ≡ asked → DeskDoes asked line old reply new → quits line ≡ true
    → (reply ≡ []) × (new.moment.files ≡ old.moment.files) × (new.keeper.table ≡ old.keeper.table)
does_quit old new line reply None is does quit = let still = quit_step old.moment new.moment line reply does.step quit in (still.0, still.2, ap (λ (k : KeeperState). k.table) does.keeper_is)
does_quit old new line reply (Some asked) is does quit = absurd (false≢true (sym (asked_goes_on line asked is) ∙ quit))

-- it has no reply, and leaves the files and the scenarios
pub quit_at_desk : (old new : DeskMoment) (line reply : List ℕ) → DeskStep old line reply new → quits line ≡ true → (reply ≡ []) × (new.moment.files ≡ old.moment.files) × (new.keeper.table ≡ old.keeper.table)
quit_at_desk old new line reply step quit = does_quit old new line reply (keeper_line line) refl step.does quit
