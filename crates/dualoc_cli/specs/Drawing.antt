-- For private functions alone: no public contract cites this page.
-- A curve while it is printed: the lines that are written, and what ended it.
use Rattle.std.specs.Prelude.{◌≡◌, ℕ, ◌+◌, ◌<◌, ◌≤◌, List, ◌++◌, length, take, Option}
use Rattle.shelf_port.specs.Files.{Rose}
use Rattle.shelf_port.specs.Streams.{with_back, RefusedLast}
use Rattle.shelf_port.specs.Ports.{SinkState}
use Rattle.shelf_port.specs.declared.fault.SinkFault.{SinkFault}
use Rattle.shelf_port.specs.declared.fault.SinkFault.TheVariants as sink
use Rattle.location_terms.specs.Instance.{Instance}
use Rattle.tree_search.specs.Budget.{max_budget, budget_in}
use Rattle.dualoc_cli.specs.declared.reply.Reply.{Reply}
use Rattle.dualoc_cli.specs.declared.reply.Reply.TheVariants.{Refused, Reached}
use Rattle.dualoc_cli.specs.declared.reply.Refusal.TheVariants.{LargeBudget}
use Rattle.dualoc_cli.specs.declared.reply.Outcome.TheVariants.{Drawn}
use Rattle.dualoc_cli.specs.declared.halt.Halt.{Halt}
use Rattle.dualoc_cli.specs.declared.halt.Halt.TheVariants as halt
use Rattle.dualoc_cli.specs.Curve.{IsCurveLine, AreCurveLines}
use Rattle.dualoc_cli.specs.Talk.{GainsWhole, GainsFront}

-- the line of a number of sites was written
pub record HasDrawn (I : Instance) (budget count : ℕ) (old new : SinkState) : Type 0 where
  pub line : List ℕ
  pub line_is : IsCurveLine I budget count line
  pub gains : GainsWhole line old new

-- it was not: memory ran out before anything of it was written, or the output refused it
pub record IsLineCut (I : Instance) (budget count : ℕ) (fault : SinkFault) (old new : SinkState) : Type 0 where
  pub line : List ℕ
  pub line_is : IsCurveLine I budget count line
  pub gains : GainsFront line fault old new

abbrev pub IsUndrawn : Instance → (budget count : ℕ) → (old new : SinkState) → Halt → Type 0
IsUndrawn I budget count old new halt.NoMemory = new ≡ old
IsUndrawn I budget count old new (halt.Refused fault) = IsLineCut I budget count fault old new

-- the lines of so many numbers of sites were written
pub record HasDrawnLines (I : Instance) (budget first counts : ℕ) (old new : SinkState) : Type 0 where
  pub row : List ℕ
  pub lines : AreCurveLines I budget first counts row
  pub gains : GainsWhole row old new

-- those of some were, and then memory ran out
pub record IsCurveForgotten (I : Instance) (budget first last : ℕ) (old new : SinkState) : Type 0 where
  pub counts : ℕ
  pub within : first + counts ≤ last + 1
  pub drawn : HasDrawnLines I budget first counts old new

-- those of some were, and the next was refused
pub record IsCurveCut (I : Instance) (budget first last : ℕ) (fault : SinkFault) (old new : SinkState) : Type 0 where
  pub counts : ℕ
  pub asked_on : first + counts ≤ last
  pub done : List ℕ
  pub lines : AreCurveLines I budget first counts done
  pub line : List ℕ
  pub line_is : IsCurveLine I budget (first + counts) line
  pub len : ℕ
  pub front : len < length line
  pub gained : new.written ≡ with_back old.written (done ++ take len line)
  pub stopped : RefusedLast old.refusals new.refusals
  pub failed : fault ≡ sink.Failed → Rose old.faults new.faults

abbrev pub IsCurveHalted : Instance → (budget first last : ℕ) → (old new : SinkState) → Halt → Type 0
IsCurveHalted I budget first last old new halt.NoMemory = IsCurveForgotten I budget first last old new
IsCurveHalted I budget first last old new (halt.Refused fault) = IsCurveCut I budget first last fault old new

-- all lines were written
pub record IsCurveWhole (I : Instance) (budget first last : ℕ) (old new : SinkState) : Type 0 where
  pub counts : ℕ
  pub all : first + counts ≡ last + 1
  pub drawn : HasDrawnLines I budget first counts old new

-- what is answered: that the budget that was given is too large, where nothing is written, or that all lines are
abbrev pub IsCurveReply : Instance → (first last : ℕ) → Option ℕ → (old new : SinkState) → Reply → Type 0
IsCurveReply I first last given old new (Refused LargeBudget) = (max_budget I < budget_in I given) × (new ≡ old)
IsCurveReply I first last given old new (Reached Drawn) = (budget_in I given ≤ max_budget I) × IsCurveWhole I (budget_in I given) first last old new
IsCurveReply I first last given old new reply = ⊥

-- why there is no reply
pub record IsCurveUnanswered (I : Instance) (first last : ℕ) (given : Option ℕ) (old new : SinkState) (h : Halt) : Type 0 where
  pub within : budget_in I given ≤ max_budget I
  pub halted : IsCurveHalted I (budget_in I given) first last old new h
