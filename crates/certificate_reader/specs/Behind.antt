-- Where a reader of a certificate stands, and what its next step comes to.
use Rattle.std.specs.Prelude.{◌≡◌, ◌⊎◌, ℕ, ◌+◌, ◌<◌, ◌≤◌, Bool, List, [], ◌∷◌, ◌++◌, length, take, All, Option, None, Some, Result, Ok, Err, ⊤}
use Rattle.std.specs.List.{slice_split}
use Rattle.shelf_port.specs.Files.{Files, HasFile, MayHold}
use Rattle.shelf_lines.specs.Line.{is_line_feed, IsLine}
use Rattle.shelf_lines.specs.Rest.{ForFile, rest_of, unread}
use Rattle.shelf_lines.specs.declared.fault.LineFault.{LineFault}
use Rattle.shelf_lines.specs.declared.fault.LineFault.TheVariants as line
use Rattle.location_terms.specs.declared.claim.Claim.{Claim}
use Rattle.location_terms.specs.Instance.{Instance}
use Rattle.certificate_lines.specs.declared.fault.CertFault.{CertFault}
use Rattle.certificate_lines.specs.declared.fault.CertFault.TheVariants.{Text, ReadFailed, NoMemory}
use Rattle.certificate_lines.specs.declared.limits.TheConstants.{MAX_CERTIFICATE_BYTES}
use Rattle.certificate_lines.specs.Due.{Due, HeaderDue, NothingDue, Suits, Shown}
use Rattle.certificate_lines.specs.Model.{due_of, shown_of, IsSound}
use Rattle.certificate_lines.specs.Lines.{read_line}
use Rattle.certificate_lines.specs.Text.{text_of_lines}
use Rattle.certificate_reader.specs.declared.reader.CertReader.{CertReader}
use Rattle.certificate_reader.specs.declared.reader.Seen.{Seen}
use Rattle.certificate_reader.specs.declared.reader.Seen.TheVariants.{Line, Whole}
use Rattle.certificate_reader.specs.Transcript.{Transcript, ends, behind, transcript_from, transcript_within}

-- a line can be read where this reader stands
pub record IsReady (I : Instance) (reader : CertReader) : Type 0 where
  pub suits : Suits I (due_of reader.due)
  pub few : reader.line + unread reader.lines ≤ MAX_CERTIFICATE_BYTES + 1

-- The reader stands behind lines that show these. Whatever pieces follow, the lines and they come to what is shown, and then what the pieces come to.
pub record IsBehind (told : Option Files) (name : List ℕ) (limit : ℕ) (I : Instance) (seen : List Shown) (reader : CertReader) : Type 0 where
  pub past : List (List ℕ)
  pub are_lines : All IsLine past
  pub fits : length (text_of_lines past) + unread reader.lines ≤ limit
  pub leads : (longer : Bool) (pieces : List (List ℕ)) → 0 < length pieces → transcript_from longer I HeaderDue 1 (past ++ pieces) ≡ behind seen (transcript_from longer I (due_of reader.due) reader.line pieces)
  pub parts : ForFile told name (λ file. slice_split is_line_feed (take limit file) ≡ past ++ slice_split is_line_feed (rest_of reader.lines file))
  pub there : ((seen ≡ []) × (reader.lines.ahead ≡ [])) ⊎ HasFile told name (λ _. ⊤)
  pub line : reader.line ≡ length seen + 1
  pub same_limit : reader.lines.limit ≡ limit
  pub ready : IsReady I reader

-- the file may hold bytes that come to this
abbrev pub MayRead : Option Files → List ℕ → ℕ → Instance → (Transcript → Type 0) → Type 0
MayRead told name limit I P = (bytes : List ℕ) × MayHold told name bytes × P (transcript_within limit I bytes)

-- a text was not read up to its end: a read failed, or memory ran out
abbrev pub IsUnread : CertFault → Type 0
IsUnread fault = (fault ≡ ReadFailed) ⊎ (fault ≡ NoMemory)

-- the fault in which a file ends that shows no more than what was seen
pub record FailsWith (seen : List Shown) (fault : CertFault) (read : Transcript) : Type 0 where
  pub more : List Shown
  pub seen_is : read.shown ++ more ≡ seen
  pub end : read.end ≡ Err fault

-- what the next step of a reader comes to, whatever lines it stands behind
abbrev pub Steps : Option Files → List ℕ → Instance → CertReader → CertReader → Result Seen CertFault → Type 0
Steps told name I old new (Ok (Line number shown)) = (limit : ℕ) (seen : List Shown) → IsBehind told name limit I seen old → IsBehind told name limit I (seen ++ shown_of shown ∷ []) new
Steps told name I old new (Ok (Whole claim)) = (limit : ℕ) (seen : List Shown) → IsBehind told name limit I seen old → MayRead told name limit I (λ read. read ≡ behind seen (ends (Ok claim)))
Steps told name I old new (Err fault) = (limit : ℕ) (seen : List Shown) → IsBehind told name limit I seen old → IsUnread fault ⊎ MayRead told name limit I (FailsWith seen fault)

-- what a line shows is sound, and it is off what is left
abbrev pub IsSoundLine : Instance → CertReader → CertReader → Seen → Type 0
IsSoundLine I old new (Line number shown) = (number ≡ old.line) × IsSound I (shown_of shown) × (unread new.lines < unread old.lines)
IsSoundLine I old new (Whole claim) = Unit {0}

-- what the line that was handed out comes to
abbrev pub IsTaken : Instance → CertReader → CertReader → Result Seen CertFault → Type 0
IsTaken I old new (Ok (Line number shown)) = (number ≡ old.line) × (read_line I (due_of old.due) old.lines.line ≡ Ok (due_of new.due, shown_of shown)) × IsSound I (shown_of shown) × Suits I (due_of new.due) × (new.line ≡ old.line + 1) × (new.lines ≡ old.lines)
IsTaken I old new (Ok (Whole claim)) = ⊥
IsTaken I old new (Err (Text kind line)) = (line ≡ old.line) × (read_line I (due_of old.due) old.lines.line ≡ Err kind)
IsTaken I old new (Err NoMemory) = Unit {0}
IsTaken I old new (Err fault) = ⊥

-- the claim of a text behind whose last line this is due
abbrev pub claim_due : Due → Option Claim
claim_due (NothingDue claim) = Some claim
claim_due due = None

-- which refusal of a certificate a refusal of one line of the file becomes
abbrev pub unread_fault : LineFault → CertFault
unread_fault line.Failed = ReadFailed
unread_fault line.NoMemory = NoMemory
