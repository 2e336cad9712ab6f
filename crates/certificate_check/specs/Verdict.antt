-- The verdict on the bytes of a certificate: its lines are taken in order, and the first fault, of form or of sense, decides.
use Rattle.std.specs.Prelude.{◌≡◌, ◌⊎◌, ℕ, ◌+◌, ◌-◌, ◌<◌, false, List, [], ◌∷◌, length, Result, Ok, Err}
use Rattle.location_terms.specs.declared.claim.Claim.{Claim}
use Rattle.location_terms.specs.Instance.{Instance}
use Rattle.certificate_lines.specs.Due.{Shown, LeafShown}
use Rattle.certificate_lines.specs.declared.fault.CertFault.{CertFault}
use Rattle.certificate_lines.specs.declared.fault.CertFault.TheVariants.{Text, TooLong, ReadFailed, NoMemory}
use Rattle.certificate_reader.specs.Transcript.{Transcript, transcript_of, transcript_within}
use Rattle.certificate_check.specs.declared.verdict.Why.{Why}
use Rattle.certificate_check.specs.declared.verdict.Verdict.{Verdict}
use Rattle.certificate_check.specs.declared.verdict.Verdict.TheVariants.{Yes, No}
use Rattle.certificate_check.specs.Judgement.{IsAgainst, Stands}

-- what is said of a certificate
abbrev pub Answer : Type 0
Answer = Result Verdict CertFault

-- what is said of one against which nothing speaks up to its end
abbrev pub at_end : Result Claim CertFault → Answer
at_end (Ok claim) = Ok (Yes claim)
at_end (Err fault) = Err fault

-- the line to which a judgement belongs: a plan's is the line that completes it, a leaf's is the first of its three
abbrev pub line_of : Shown → ℕ → ℕ
line_of (LeafShown claim path d) line = line - 2
line_of shown line = line

-- what is shown in the line of this number is answered by what speaks against it
abbrev pub IsRefusal : Instance → Shown → ℕ → Answer → Type 0
IsRefusal I shown line answer = (why : Why) × IsAgainst I shown why × (answer ≡ Ok (No (line_of shown line) why))

-- what lines show, of which the first is the line of this number, and then their end are answered so: the first thing that is shown and doesn't stand decides, and else the end
abbrev pub IsJudged : Instance → ℕ → List Shown → Result Claim CertFault → Answer → Type 0
IsJudged I line [] end answer = answer ≡ at_end end
IsJudged I line (shown ∷ more) end answer = IsRefusal I shown line answer ⊎ (Stands I shown × IsJudged I (line + 1) more end answer)

abbrev pub IsAnswerTo : Instance → Transcript → Answer → Type 0
IsAnswerTo I read answer = IsJudged I 1 read.shown read.end answer

-- the verdict on the bytes of a certificate
abbrev pub IsVerdict : Instance → List ℕ → Answer → Type 0
IsVerdict I bytes answer = IsAnswerTo I (transcript_of false I bytes) answer

-- The answer on a file of which no more than its first bytes, up to a limit, are looked at: where these decide nothing and more follow, the file is too long, also where they are a whole text.
abbrev pub IsAnswer : ℕ → Instance → List ℕ → Answer → Type 0
IsAnswer limit I bytes answer = IsAnswerTo I (transcript_within limit I bytes) answer

-- the certificate was not read up to what decides: a read failed, or memory ran out
abbrev pub IsUnread : Answer → Type 0
IsUnread answer = (answer ≡ Err ReadFailed) ⊎ (answer ≡ Err NoMemory)

-- an answer that bytes decide: it is no failed read and no want of memory, and too long are only more bytes than the limit
abbrev pub IsDecided : ℕ → List ℕ → Answer → Type 0
IsDecided limit bytes (Ok verdict) = Unit {0}
IsDecided limit bytes (Err (Text kind line)) = Unit {0}
IsDecided limit bytes (Err TooLong) = limit < length bytes
IsDecided limit bytes (Err ReadFailed) = ⊥
IsDecided limit bytes (Err NoMemory) = ⊥
