-- That bytes decide each answer.
use Rattle.std.proofs.Common.{◌≡◌, ℕ, ◌+◌, Bool, true, false, List, [], ◌∷◌, length, take, Result, Ok, Err, refl, sym, subst, inl, inr}
use Rattle.std.specs.Prelude.{nat_lt}
use Rattle.std.specs.List.{slice_split}
use Rattle.std.proofs.lemmas.Bool.{ltb-true}
use Rattle.shelf_lines.specs.Line.{is_line_feed}
use Rattle.location_terms.specs.declared.claim.Claim.{Claim}
use Rattle.location_terms.specs.Instance.{Instance}
use Rattle.certificate_lines.specs.declared.fault.CertFault.{CertFault}
use Rattle.certificate_lines.specs.Due.{Due, HeaderDue, NothingDue, Shown}
use Rattle.certificate_lines.specs.Lines.{Said, read_line}
use Rattle.certificate_reader.specs.Transcript.{Transcript, at_rest, line_first, transcript_from, transcript_within}
use Rattle.certificate_check.specs.Verdict.{Answer, at_end, IsJudged, IsAnswer, IsDecided}

module _ (limit : ℕ) (bytes : List ℕ) where
  -- an end that bytes decide
  abbrev IsFair : Result Claim CertFault → Type 0
  IsFair end = IsDecided limit bytes (at_end end)

  rest_fair : (longer : Bool) → nat_lt limit (length bytes) ≡ longer → (due : Due) (line : ℕ) (rest : List ℕ) → IsFair (at_rest longer due line rest)
  rest_fair longer is (NothingDue claim) line (b ∷ rest) = tt
  rest_fair true is (NothingDue claim) line [] = ltb-true limit (length bytes) is
  rest_fair false is (NothingDue claim) line [] = tt
  rest_fair true is due line rest = ltb-true limit (length bytes) is
  rest_fair false is due line rest = tt

  line_fair : (n : ℕ) (said : Said) (follows : Due → Transcript) → ((next : Due) → IsFair (follows next).end) → IsFair (line_first n said follows).end
  line_fair n (Err kind) follows later = tt
  line_fair n (Ok (next, shown)) follows later = later next

  all_fair : (longer : Bool) → nat_lt limit (length bytes) ≡ longer → (I : Instance) (due : Due) (n : ℕ) (pieces : List (List ℕ)) → IsFair (transcript_from longer I due n pieces).end
  all_fair longer is I due n [] = rest_fair longer is due n []
  all_fair longer is I due n (rest ∷ []) = rest_fair longer is due n rest
  all_fair longer is I due n (this ∷ next ∷ more) = line_fair n (read_line I due this) (λ behind. transcript_from longer I behind (n + 1) (next ∷ more)) (λ behind. all_fair longer is I behind (n + 1) (next ∷ more))

  judged_fair : (I : Instance) (n : ℕ) (shown : List Shown) (end : Result Claim CertFault) (answer : Answer) → IsFair end → IsJudged I n shown end answer → IsDecided limit bytes answer
  judged_fair I n [] end answer fair judged = subst (IsDecided limit bytes) (sym judged) fair
  judged_fair I n (s ∷ shown) end answer fair (inl against) = subst (IsDecided limit bytes) (sym against.2) tt
  judged_fair I n (s ∷ shown) end answer fair (inr on) = judged_fair I (n + 1) shown end answer fair on.1

pub answer_decided : (limit : ℕ) (I : Instance) (bytes : List ℕ) (answer : Answer) → IsAnswer limit I bytes answer → IsDecided limit bytes answer
answer_decided limit I bytes answer is =
    let read = transcript_within limit I bytes in
    judged_fair limit bytes I 1 read.shown read.end answer (all_fair limit bytes (nat_lt limit (length bytes)) refl I HeaderDue 1 (slice_split is_line_feed (take limit bytes))) is
