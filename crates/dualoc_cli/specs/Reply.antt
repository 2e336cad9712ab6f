-- What a run answers: the status of a reply, and its text.
use Rattle.std.specs.Prelude.{ℕ, List, [], ◌++◌, Some, codes, decimal}
use Rattle.location_terms.specs.Plan.{IsFeasible}
use Rattle.location_terms.specs.declared.claim.Claim.{Claim}
use Rattle.location_terms.specs.declared.claim.Claim.TheVariants as claims
use Rattle.location_terms.specs.declared.claim.Claim.TheVariants.{Optimal}
use Rattle.fixed_cost.specs.Faults.{fault_text}
use Rattle.number_words.specs.Cost.{micro_text}
use Rattle.number_words.specs.Number.{number_text}
use Rattle.plan_meaning.specs.PlanFault.{fault_name}
use Rattle.fixed_cost.specs.Claim.{claim_text}
use Rattle.report.specs.PlanText.{plan_text_of}
use Rattle.report.specs.DualsText.{ArePrintable, duals_text_of}
use Rattle.center_text.specs.declared.claim.RadiusClaim.TheVariants as radius
use Rattle.center_text.specs.CenterText.{radius_text}
use Rattle.certificate_lines.specs.Kind.{cert_kind_name}
use Rattle.certificate_check.specs.declared.verdict.Why.{Why}
use Rattle.certificate_check.specs.declared.verdict.Why.TheVariants.{PlanRefused, CostDiffers, LeafOpen}
use Rattle.certificate_check.specs.declared.verdict.Verdict.TheVariants.{Yes, No}
use Rattle.dualoc_cli.specs.declared.status.Status.{Status}
use Rattle.dualoc_cli.specs.declared.status.Status.TheVariants.{Done, Infeasible, Bracket, CheckNo, Usage, BadInput, ReadFault, WriteFault, TooLarge}
use Rattle.dualoc_cli.specs.declared.status.Status.TheVariants as statuses
use Rattle.dualoc_cli.specs.declared.reply.Reply.{Reply}
use Rattle.dualoc_cli.specs.declared.reply.Reply.TheVariants.{NoCommand, Failed, Refused, Reached}
use Rattle.dualoc_cli.specs.declared.reply.Port.{Port}
use Rattle.dualoc_cli.specs.declared.reply.Port.TheVariants as port
use Rattle.dualoc_cli.specs.declared.reply.Refusal.{Refusal}
use Rattle.dualoc_cli.specs.declared.reply.Refusal.TheVariants.{LongInstance, Faulty, ManySites, LargeBudget, LongCertificate, LongLine, LongInput, NoSite, NoCustomer, NoLane}
use Rattle.dualoc_cli.specs.declared.reply.Outcome.{Outcome}
use Rattle.dualoc_cli.specs.declared.reply.Outcome.TheVariants.{Optimum, Searched, Tried, Ascent, Misspelt, Judged, Converted, Ended, Ranged, NoOptimalClaim, Centered, Drawn}
use Rattle.dualoc_cli.specs.declared.reply.CenterEnd.{CenterEnd}
use Rattle.dualoc_cli.specs.declared.reply.CenterEnd.TheVariants as center_ends

-- Statuses.

-- the status of what a search came to
abbrev pub status_of_claim : Claim → Status
status_of_claim (claims.Optimal cost) = Done
status_of_claim claims.Infeasible = Infeasible
status_of_claim (claims.Bracket low high) = Bracket

-- of a file or an input that was to be read, or a file that was to be written
abbrev pub failed_status : Port → Status
failed_status port.Instance = ReadFault
failed_status port.Certificate = ReadFault
failed_status port.Result = WriteFault
failed_status port.New = WriteFault
failed_status port.Input = ReadFault
failed_status port.Center = WriteFault

abbrev pub refused_status : Refusal → Status
refused_status LongInstance = TooLarge
refused_status (Faulty fault) = BadInput
refused_status ManySites = TooLarge
refused_status LargeBudget = TooLarge
refused_status LongCertificate = TooLarge
refused_status LongLine = TooLarge
refused_status LongInput = TooLarge
refused_status NoSite = statuses.Refused
refused_status NoCustomer = statuses.Refused
refused_status NoLane = statuses.Refused

-- of what a search for a center came to
abbrev pub center_status : CenterEnd → Status
center_status (center_ends.Best radius) = Done
center_status center_ends.Infeasible = Infeasible
center_status (center_ends.Open low high at nodes budget) = Bracket

abbrev pub outcome_status : Outcome → Status
outcome_status (Optimum I P cost) = Done
outcome_status (Searched claim nodes budget) = status_of_claim claim
outcome_status (Tried claim nodes budget opened) = status_of_claim claim
outcome_status (Ascent I d) = Done
outcome_status (Misspelt kind line) = CheckNo
outcome_status (Judged (Yes claim)) = Done
outcome_status (Judged (No line why)) = CheckNo
outcome_status (Converted m n) = Done
outcome_status Ended = Done
outcome_status (Ranged range) = Done
outcome_status NoOptimalClaim = CheckNo
outcome_status (Centered end) = center_status end
outcome_status Drawn = Done

abbrev pub status_of : Reply → Status
status_of NoCommand = Usage
status_of (Failed at) = failed_status at
status_of (Refused refusal) = refused_status refusal
status_of (Reached outcome) = outcome_status outcome

-- Texts.

-- the line of a no: what speaks against a certificate, with its line
abbrev pub no_text : ℕ → Why → List ℕ
no_text line (PlanRefused fault) = codes "no PlanRefused line " ++ decimal line ++ codes " " ++ fault_name fault ++ codes "\n"
no_text line (CostDiffers found) = codes "no CostDiffers line " ++ decimal line ++ codes " found " ++ micro_text found ++ codes "\n"
no_text line (LeafOpen bound q) = codes "no LeafOpen line " ++ decimal line ++ codes " bound " ++ number_text bound ++ codes " scale " ++ decimal q ++ codes "\n"

-- the budget in force, where it was spent
abbrev pub spent_text : Claim → ℕ → List ℕ
spent_text (claims.Bracket low high) budget = codes " budget " ++ decimal budget
spent_text claim budget = []

-- the line of what a search came to, with how many nodes its tree has
abbrev pub result_line : Claim → ℕ → ℕ → List ℕ
result_line claim nodes budget = claim_text claim ++ codes " nodes " ++ decimal nodes ++ spent_text claim budget ++ codes "\n"

-- the line of what a search for a center came to; of a bracket also the cost below which the last probe asked for a plan
abbrev pub center_line : CenterEnd → List ℕ
center_line (center_ends.Best radius) = codes "center " ++ micro_text radius ++ codes "\n"
center_line center_ends.Infeasible = codes "infeasible\n"
center_line (center_ends.Open low high at nodes budget) =
    radius_text (radius.Bracket low high) ++ codes " at " ++ micro_text at ++ codes " nodes " ++ decimal nodes ++ codes " budget " ++ decimal budget ++ codes "\n"

abbrev pub failed_text : Port → List ℕ
failed_text port.Instance = codes "read fault\n"
failed_text port.Certificate = codes "read fault\n"
failed_text port.Result = codes "write fault\n"
failed_text port.New = codes "write fault\n"
failed_text port.Input = codes "read fault\n"
failed_text port.Center = codes "write fault\n"

abbrev pub refused_text : Refusal → List ℕ
refused_text LongInstance = codes "too large instance\n"
refused_text (Faulty fault) = codes "bad input " ++ fault_text fault ++ codes "\n"
refused_text ManySites = codes "too large sites\n"
refused_text LargeBudget = codes "too large budget\n"
refused_text LongCertificate = codes "too large certificate\n"
refused_text LongLine = codes "too large line\n"
refused_text LongInput = codes "too large input\n"
refused_text NoSite = codes "refused NoSite\n"
refused_text NoCustomer = codes "refused NoCustomer\n"
refused_text NoLane = codes "refused NoLane\n"

abbrev pub outcome_text : Outcome → List ℕ
outcome_text (Optimum I P cost) = plan_text_of I (Optimal cost) (Some P)
outcome_text (Searched claim nodes budget) = result_line claim nodes budget
outcome_text (Tried claim nodes budget opened) = result_line claim nodes budget ++ codes "open " ++ decimal opened ++ codes "\n"
outcome_text (Ascent I d) = duals_text_of I d
outcome_text (Misspelt kind line) = codes "no " ++ cert_kind_name kind ++ codes " line " ++ decimal line ++ codes "\n"
outcome_text (Judged (Yes claim)) = codes "yes " ++ claim_text claim ++ codes "\n"
outcome_text (Judged (No line why)) = no_text line why
outcome_text (Converted m n) = codes "converted sites " ++ decimal m ++ codes " customers " ++ decimal n ++ codes "\n"
outcome_text Ended = []
outcome_text (Ranged range) = codes "range " ++ micro_text range.least ++ codes " " ++ micro_text range.greatest ++ codes "\n"
outcome_text NoOptimalClaim = codes "no OptimalClaim\n"
outcome_text (Centered end) = center_line end
outcome_text Drawn = []

abbrev pub text_of : Reply → List ℕ
text_of NoCommand = codes "usage\n"
text_of (Failed at) = failed_text at
text_of (Refused refusal) = refused_text refusal
text_of (Reached outcome) = outcome_text outcome

-- the text of the reply can be made: its plan is one of its instance, and its duals can be printed
abbrev pub CanBePrinted : Outcome → Type 0
CanBePrinted (Optimum I P cost) = IsFeasible I P
CanBePrinted (Ascent I d) = ArePrintable I d
CanBePrinted outcome = Unit {0}

abbrev pub IsPrintable : Reply → Type 0
IsPrintable (Reached outcome) = CanBePrinted outcome
IsPrintable reply = Unit {0}
