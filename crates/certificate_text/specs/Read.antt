-- For private functions alone: no public contract cites this page.
-- What is kept of the lines of a certificate that are read, and what reading it comes to.
use Rattle.std.specs.Prelude.{◌≡◌, ◌⊎◌, ℕ, List, [], ◌∷◌, length, Option, None, Some, Result, Ok, Err}
use Rattle.location_terms.specs.declared.claim.Claim.{Claim}
use Rattle.location_terms.specs.Instance.{Instance}
use Rattle.location_terms.specs.Split.{IsSplitAmong}
use Rattle.location_terms.specs.Tree.{HasLists}
use Rattle.location_terms.specs.Certificate.{Certificate}
use Rattle.branch_tree.specs.declared.entry.Entry.TheVariants.{End, Branch}
use Rattle.branch_tree.specs.Begun.{Begun, begun_on, grown, built}
use Rattle.shelf_port.specs.Files.{Files, HasFile}
use Rattle.certificate_lines.specs.declared.fault.CertFault.{CertFault}
use Rattle.certificate_lines.specs.Due.{Shown, NothingShown, PlanShown, SplitShown, LeafShown}
use Rattle.certificate_lines.specs.Follow.{HasText}
use Rattle.certificate_lines.specs.Text.{certificate_text}
use Rattle.certificate_reader.specs.Behind.{IsUnread}
use Rattle.certificate_reader.specs.Transcript.{transcript_within}
use Rattle.certificate_text.specs.declared.certificate.Certificate.{Certificate as Held}
use Rattle.certificate_text.specs.declared.kept.Kept.{Kept}
use Rattle.certificate_text.specs.Cert.{certificate_of}

-- nothing is kept yet
abbrev pub nothing_kept : Instance → Kept
nothing_kept I = record { plan = None; nodes = begun_on I }

-- what is kept once this is shown: a plan, or a node of the tree
abbrev pub kept_with : Kept → Shown → Kept
kept_with kept NothingShown = kept
kept_with kept (PlanShown claim P) = record kept { plan = Some P }
kept_with kept (SplitShown split) = record kept { nodes = grown kept.nodes (Branch split) }
kept_with kept (LeafShown claim path d) = record kept { nodes = grown kept.nodes (End d) }

-- what is kept once these are shown, in order
abbrev pub kept_all : Kept → List Shown → Kept
kept_all kept [] = kept
kept_all kept (shown ∷ rest) = kept_all (kept_with kept shown) rest

-- a node that is shown is on the ids that the tree stands on
abbrev pub FitsOn : Begun → Shown → Type 0
FitsOn nodes (SplitShown split) = IsSplitAmong nodes.sites nodes.customers split
FitsOn nodes (LeafShown claim path d) = HasLists (length nodes.sites) (length nodes.customers) d
FitsOn nodes shown = Unit {0}

-- the certificate of a claim with what was kept
abbrev pub certificate_from : Claim → Kept → Certificate
certificate_from claim kept = record { claim = claim; plan = kept.plan; tree = built kept.nodes }

-- the file is the text of the certificate that is answered, or ends with the fault up to a limit, where it was read so far
abbrev pub Comes : Option Files → List ℕ → ℕ → Instance → Result Held CertFault → Type 0
Comes told name limit I (Ok held) = HasText I (certificate_of held) × HasFile told name (λ bytes. bytes ≡ certificate_text I (certificate_of held))
Comes told name limit I (Err fault) = IsUnread fault ⊎ HasFile told name (λ bytes. (transcript_within limit I bytes).end ≡ Err fault)
