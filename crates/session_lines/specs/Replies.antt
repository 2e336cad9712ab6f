-- The replies of a session.
use Rattle.std.specs.Prelude.{ℕ, List, ◌++◌, Option, None, Some, codes}
use Rattle.location_terms.specs.declared.claim.Claim.{Claim}
use Rattle.location_terms.specs.declared.claim.Claim.TheVariants as claims
use Rattle.location_terms.specs.Instance.{Instance}
use Rattle.number_words.specs.Number.{digits_text}
use Rattle.fixed_cost.specs.Claim.{claim_text}
use Rattle.instance_edits.specs.declared.edit.Edit.{Edit}
use Rattle.instance_edits.specs.declared.edit.Edit.TheVariants.{AddSite, AddCust}
use Rattle.instance_edits.specs.declared.edit.EditFault.{EditFault}
use Rattle.instance_edits.specs.declared.edit.EditFault.TheVariants as edits
use Rattle.session_lines.specs.declared.fault.SessionFault.{SessionFault}
use Rattle.session_lines.specs.declared.fault.SessionFault.TheVariants as session
use Rattle.session_lines.specs.declared.replies.Came.{Came}
use Rattle.session_lines.specs.declared.replies.Came.TheVariants.{Site, Customer}

-- the names of faults, as they are printed
abbrev pub edit_fault_name : EditFault → List ℕ
edit_fault_name edits.NoSite = codes "NoSite"
edit_fault_name edits.NoCustomer = codes "NoCustomer"
edit_fault_name edits.LaneCount = codes "LaneCount"
edit_fault_name edits.BadCount = codes "BadCount"
edit_fault_name edits.LastOne = codes "LastOne"
edit_fault_name edits.TooMany = codes "TooMany"
edit_fault_name edits.IdsSpent = codes "IdsSpent"
edit_fault_name edits.NoMemory = codes "NoMemory"

abbrev pub session_fault_name : SessionFault → List ℕ
session_fault_name session.BadCommand = codes "BadCommand"
session_fault_name (session.Edit fault) = edit_fault_name fault
session_fault_name session.NothingToUndo = codes "NothingToUndo"
session_fault_name session.Stale = codes "Stale"
session_fault_name session.SessionFull = codes "SessionFull"
session_fault_name session.BudgetTooLarge = codes "BudgetTooLarge"
session_fault_name session.WriteFailed = codes "WriteFailed"
session_fault_name session.NoMemory = codes "NoMemory"

abbrev pub refusal_text : SessionFault → List ℕ
refusal_text fault = codes "refused " ++ session_fault_name fault ++ codes "\n"

abbrev pub ok_text : List ℕ
ok_text = codes "ok\n"

-- what an edit brings in: a site or a customer, with the next id of the instance before; most bring nothing
abbrev pub came_of : Instance → Edit → Option Came
came_of I (AddSite cost cap row) = Some (Site I.next_site)
came_of I (AddCust demand column) = Some (Customer I.next_customer)
came_of I edit = None

-- an edit is accepted; of what comes the id is told
abbrev pub came_text : Option Came → List ℕ
came_text None = ok_text
came_text (Some (Site s)) = codes "ok site " ++ digits_text s ++ codes "\n"
came_text (Some (Customer c)) = codes "ok customer " ++ digits_text c ++ codes "\n"

abbrev pub edit_text : Instance → Edit → List ℕ
edit_text I e = came_text (came_of I e)

-- what stands behind a claim and the nodes that were made: how many nodes the tree has, or the budget, where it was spent
abbrev pub end_text : Claim → (nodes budget : ℕ) → List ℕ
end_text (claims.Optimal cost) nodes budget = codes " nodes " ++ digits_text nodes
end_text claims.Infeasible nodes budget = codes " nodes " ++ digits_text nodes
end_text (claims.Bracket low high) nodes budget = codes " budget " ++ digits_text budget

-- what a solve came to
abbrev pub solve_text : Claim → (made nodes budget : ℕ) → List ℕ
solve_text claim made nodes budget = claim_text claim ++ codes " made " ++ digits_text made ++ end_text claim nodes budget ++ codes "\n"
