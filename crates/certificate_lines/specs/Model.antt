-- What the code's line that is due, and what it has read, mean.
use Rattle.std.specs.Prelude.{◌≡◌, Result, Ok, Err}
use Rattle.location_terms.specs.Instance.{Instance, site_ids, customer_ids}
use Rattle.location_terms.specs.Split.{IsSplitAmong}
use Rattle.location_terms.specs.Leaf.{LeafFits}
use Rattle.certificate_lines.specs.declared.line.Due.{Due as CodeDue}
use Rattle.certificate_lines.specs.declared.line.Due.TheVariants as due
use Rattle.certificate_lines.specs.declared.line.Shown.{Shown as CodeShown}
use Rattle.certificate_lines.specs.declared.line.Shown.TheVariants as shown
use Rattle.certificate_lines.specs.declared.line.LineFault.{LineFault}
use Rattle.certificate_lines.specs.declared.line.LineFault.TheVariants.{Line, NoMemory}
use Rattle.certificate_lines.specs.Due.{Due, HeaderDue, SizesDue, MustOpenDue, MustClosedDue, ClaimDue, OpenDue, ServeDue, NodeDue, ValuesDue, PricesDue, EndDue, NothingDue, Shown, NothingShown, PlanShown, SplitShown, LeafShown}
use Rattle.certificate_lines.specs.Lines.{Said}

-- the line that is due
abbrev pub due_of : CodeDue → Due
due_of due.Header = HeaderDue
due_of due.Sizes = SizesDue
due_of due.MustOpen = MustOpenDue
due_of due.MustClosed = MustClosedDue
due_of due.Claim = ClaimDue
due_of (due.Open claim) = OpenDue claim
due_of (due.Serve claim sites) = ServeDue claim sites.items
due_of (due.Node claim path) = NodeDue claim path
due_of (due.Values head) = ValuesDue head.claim head.path head.q head.nu
due_of (due.Prices head v) = PricesDue head.claim head.path head.q head.nu v.items
due_of (due.End claim) = EndDue claim
due_of (due.Nothing claim) = NothingDue claim

-- what there is to judge
abbrev pub shown_of : CodeShown → Shown
shown_of shown.Nothing = NothingShown
shown_of (shown.Plan claim plan) = PlanShown claim plan
shown_of (shown.Split split) = SplitShown split
shown_of (shown.Leaf claim path duals) = LeafShown claim path duals

-- the duals of a leaf that is shown suit their form, and a split is one of the instance
abbrev pub IsSound : Instance → Shown → Type 0
IsSound I (SplitShown split) = IsSplitAmong (site_ids I) (customer_ids I) split
IsSound I (LeafShown claim path duals) = LeafFits I duals
IsSound I shown = Unit {0}

-- a line is not read for what it says, or for want of memory
abbrev pub IsFaultOf : LineFault → Said → Type 0
IsFaultOf (Line kind) said = said ≡ Err kind
IsFaultOf NoMemory said = Unit {0}

-- a reader answers what the line says, which shows nothing
abbrev pub AnswersDue : Result CodeDue LineFault → Said → Type 0
AnswersDue (Ok due) said = said ≡ Ok (due_of due, NothingShown)
AnswersDue (Err fault) said = IsFaultOf fault said

-- a reader answers what the line says and what it shows
abbrev pub Answers : Result (CodeDue × CodeShown) LineFault → Said → Type 0
Answers (Ok read) said = said ≡ Ok (due_of read.0, shown_of read.1)
Answers (Err fault) said = IsFaultOf fault said
