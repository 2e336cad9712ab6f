-- How an input ends a session, as far as it is told.
use Rattle.std.proofs.Common.{◌≡◌, ℕ, List, Option, None, Some, refl, sym, ◌∙◌, subst}
use Rattle.std.specs.Prelude.{Bool, true, false, MatchBool}
use Rattle.whatif_session.specs.Input.{session_limits, input_lines, is_ended_by_quit}
use Rattle.whatif_session.specs.Run.{Stop, AtEnd, IsDueStop, MayGive, stop_at}

-- an input that is told ends a session so; one that isn't may end it in each way
abbrev pub MayEnd : Option (List ℕ) → Stop → Type 0
MayEnd None stop = Unit {0}
MayEnd (Some bytes) stop = IsDueStop session_limits bytes stop

pub given_end : (told : Option (List ℕ)) (bytes : List ℕ) (stop : Stop) → MayGive told bytes → IsDueStop session_limits bytes stop → MayEnd told stop
given_end None bytes stop given due = tt
given_end (Some other) bytes stop given due = subst (λ b. IsDueStop session_limits b stop) (sym given) due

-- there is one way, and only one where the input is told
stop_by : (quit : Bool) (other : Stop) → (stop : Stop) × MatchBool quit (stop ≡ AtEnd) (stop ≡ other)
stop_by true other = (AtEnd, refl)
stop_by false other = (other, refl)

pub some_end : (told : Option (List ℕ)) → (stop : Stop) × MayEnd told stop
some_end None = (AtEnd, tt)
some_end (Some bytes) = stop_by (is_ended_by_quit session_limits bytes) (stop_at (input_lines session_limits bytes).ends)

pub stop_once : (quit : Bool) (other one two : Stop) → MatchBool quit (one ≡ AtEnd) (one ≡ other) → MatchBool quit (two ≡ AtEnd) (two ≡ other) → one ≡ two
stop_once true other one two p q = p ∙ sym q
stop_once false other one two p q = p ∙ sym q
