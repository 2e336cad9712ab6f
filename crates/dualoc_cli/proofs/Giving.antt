-- What an input may have given, and one more step of a session.
use Rattle.std.proofs.Common.{◌≡◌, ℕ, ◌+◌, false, List, [], ◌∷◌, ◌++◌, refl, sym, ap, ◌∙◌, subst, arith, append_assoc, append-nil}
use Rattle.std.specs.Prelude.{Option, None, Some, option_map, unwrap_or, IfSome, replicate}
use Rattle.std.proofs.lemmas.List.{length-replicate}
use Rattle.std.proofs.lemmas.List.Elements.{All-replicate}
use Rattle.shelf_port.specs.Streams.{with_front}
use Rattle.shelf_lines.specs.Line.{is_line_feed}
use Rattle.shelf_lines.specs.Input.{HasLongLine}
use Rattle.whatif_session.specs.Step.{Moment, SessionStep}
use Rattle.whatif_session.specs.Run.{StepsThrough, MayGive}
use Rattle.dualoc_cli.specs.Talk.{with_lines}
use Rattle.dualoc_cli.proofs.Stopping.{with_lines_more}

-- Steps.

pub steps_more : (first mid last : Moment) (lines : List (List ℕ)) (line row reply : List ℕ) → StepsThrough first lines row mid → SessionStep mid line reply last → StepsThrough first (lines ++ line ∷ []) (row ++ reply) last
steps_more first mid last [] line row reply steps step =
    (reply, [], last, ap (λ r. r ++ reply) steps.0 ∙ sym (append-nil reply), subst (λ m. SessionStep m line reply last) steps.1 step, (refl, refl))
steps_more first mid last (l ∷ lines) line row reply steps step =
    (steps.0, steps.1 ++ reply, steps.2, ap (λ r. r ++ reply) steps.3 ∙ append_assoc steps.0 steps.1 reply, steps.4, steps_more steps.2 mid last lines line steps.1 reply steps.5 step)

-- What an input may have given.

pub gives : (told so_far : Option (List ℕ)) (lines : List (List ℕ)) (tail : List ℕ) → told ≡ option_map (with_lines lines) so_far → MayGive so_far tail → MayGive told (with_lines lines tail)
gives told None lines tail is may = subst (λ (t : Option (List ℕ)). MayGive t (with_lines lines tail)) (sym is) tt
gives told (Some rest) lines tail is may = subst (λ (t : Option (List ℕ)). MayGive t (with_lines lines tail)) (sym is) (ap (with_lines lines) may)

-- what is left, or nothing where that isn't told
abbrev pub tail_of : Option (List ℕ) → List ℕ
tail_of told = unwrap_or told []

pub tail_given : (told : Option (List ℕ)) → MayGive told (tail_of told)
tail_given None = tt
tail_given (Some rest) = refl

-- bytes in front of what is left
pub front_given : (so_far told : Option (List ℕ)) (front : List ℕ) → so_far ≡ with_front front told → MayGive so_far (front ++ tail_of told)
front_given so_far None front is = subst (λ (t : Option (List ℕ)). MayGive t (front ++ [])) (sym is) tt
front_given so_far (Some rest) front is = subst (λ (t : Option (List ℕ)). MayGive t (front ++ rest)) (sym is) refl

pub fed_given : (so_far told : Option (List ℕ)) (line ahead : List ℕ) → so_far ≡ with_front (line ++ 10 ∷ ahead) told → MayGive so_far (line ++ 10 ∷ tail_of (with_front ahead told))
fed_given so_far None line ahead is = subst (λ (t : Option (List ℕ)). MayGive t (line ++ 10 ∷ [])) (sym is) tt
fed_given so_far (Some rest) line ahead is = subst (λ (t : Option (List ℕ)). MayGive t (line ++ 10 ∷ (ahead ++ rest))) (sym is) (append_assoc line (10 ∷ ahead) rest)

pub last_given : (so_far : Option (List ℕ)) (line : List ℕ) → IfSome so_far (λ rest. rest ≡ line) → MayGive so_far line
last_given None line is = tt
last_given (Some rest) line is = is

-- a line that is too long, made up where the input isn't told
pub long_given : (so_far : Option (List ℕ)) (most : ℕ) → IfSome so_far (HasLongLine most) → (tail : List ℕ) × MayGive so_far tail × HasLongLine most tail
long_given None most long =
    (replicate (most + 1) 0, tt, record { front = replicate (most + 1) 0; behind = []; bytes_are = sym (append-nil (replicate (most + 1) 0)); is_line = All-replicate (λ b. is_line_feed b ≡ false) (most + 1) 0 refl; long = omega (arith, length-replicate {A = ℕ} (most + 1) 0) })
long_given (Some rest) most long = (rest, refl, long)

pub told_more : (told so_far left : Option (List ℕ)) (lines : List (List ℕ)) (line ahead : List ℕ) → told ≡ option_map (with_lines lines) so_far → so_far ≡ with_front (line ++ 10 ∷ ahead) left
    → told ≡ option_map (with_lines (lines ++ line ∷ [])) (with_front ahead left)
told_more told so_far None lines line ahead is step = is ∙ ap (option_map (with_lines lines)) step
told_more told so_far (Some rest) lines line ahead is step =
    is ∙ ap (option_map (with_lines lines)) step ∙ ap Some (ap (with_lines lines) (append_assoc line (10 ∷ ahead) rest) ∙ sym (with_lines_more lines line (ahead ++ rest)))

pub front_nothing : (so_far told : Option (List ℕ)) (front ahead : List ℕ) → ahead ≡ [] → so_far ≡ with_front (front ++ ahead) told → so_far ≡ with_front front told
front_nothing so_far told front ahead none is = is ∙ ap (λ l. with_front l told) (ap (λ a. front ++ a) none ∙ append-nil front)

pub fed_nothing : (so_far told : Option (List ℕ)) (line ahead : List ℕ) → ahead ≡ [] → so_far ≡ with_front (line ++ 10 ∷ ahead) told → so_far ≡ with_front (line ++ 10 ∷ []) told
fed_nothing so_far told line ahead none is = is ∙ ap (λ a. with_front (line ++ 10 ∷ a) told) none
