-- What the bytes of a certificate come to, where only their form is looked at.
use Rattle.std.specs.Prelude.{ℕ, ◌+◌, Bool, true, false, List, [], ◌∷◌, ◌++◌, length, take, Result, Ok, Err, nat_lt}
use Rattle.std.specs.List.{slice_split}
use Rattle.shelf_lines.specs.Line.{is_line_feed}
use Rattle.location_terms.specs.declared.claim.Claim.{Claim}
use Rattle.location_terms.specs.Instance.{Instance}
use Rattle.certificate_lines.specs.declared.fault.CertFault.{CertFault}
use Rattle.certificate_lines.specs.declared.fault.CertFault.TheVariants.{Text, TooLong}
use Rattle.certificate_lines.specs.declared.kind.CertKind.TheVariants.{Ended, Trailing}
use Rattle.certificate_lines.specs.Due.{Due, HeaderDue, NothingDue, Shown}
use Rattle.certificate_lines.specs.Lines.{Said, read_line}

-- what the lines up to the first fault show, one after another, and the claim or the fault in which they end
pub record Transcript : Type 0 where
  pub shown : List Shown
  pub end : Result Claim CertFault

abbrev pub ends : Result Claim CertFault → Transcript
ends end = record { shown = []; end = end }

-- these are shown, and then what follows
abbrev pub behind : List Shown → Transcript → Transcript
behind shown rest = record { shown = shown ++ rest.shown; end = rest.end }

-- What has no line feed behind it. A byte behind the end of the text is a fault. Else, where the file goes on past the limit, it is too long, and where it ends here, the text is whole or ends too soon.
abbrev pub at_rest : (longer : Bool) → Due → ℕ → List ℕ → Result Claim CertFault
at_rest longer (NothingDue claim) line (b ∷ rest) = Err (Text Trailing line)
at_rest true due line rest = Err TooLong
at_rest false (NothingDue claim) line rest = Ok claim
at_rest false due line rest = Err (Text Ended line)

-- a line that says this ends it by a fault, or shows something before what follows
abbrev pub line_first : ℕ → Said → (Due → Transcript) → Transcript
line_first line (Err kind) follows = ends (Err (Text kind line))
line_first line (Ok (due, shown)) follows = behind (shown ∷ []) (follows due)

-- what the pieces between the line feeds of a text come to, where something is due and the first is the line of this number
abbrev pub transcript_from : (longer : Bool) → Instance → Due → ℕ → List (List ℕ) → Transcript
transcript_from longer I due line [] = ends (at_rest longer due line [])
transcript_from longer I due line (rest ∷ []) = ends (at_rest longer due line rest)
transcript_from longer I due line (this ∷ next ∷ more) = line_first line (read_line I due this) (λ due. transcript_from longer I due (line + 1) (next ∷ more))

-- what bytes come to, behind which a file goes on or ends
abbrev pub transcript_of : (longer : Bool) → Instance → List ℕ → Transcript
transcript_of longer I bytes = transcript_from longer I HeaderDue 1 (slice_split is_line_feed bytes)

-- what a file comes to of which no more than its first bytes, up to a limit, are looked at
abbrev pub transcript_within : ℕ → Instance → List ℕ → Transcript
transcript_within limit I bytes = transcript_of (nat_lt limit (length bytes)) I (take limit bytes)
