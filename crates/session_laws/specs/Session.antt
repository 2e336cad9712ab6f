-- What the laws say of sessions.
use Rattle.std.specs.Prelude.{◌≤◌, All, Option, None, Some}
use Rattle.location_terms.specs.declared.claim.Claim.{Claim}
use Rattle.location_terms.specs.declared.claim.Claim.TheVariants.{Optimal, Infeasible}
use Rattle.location_terms.specs.Instance.{Instance}
use Rattle.location_terms.specs.Plan.{Plan, cost_of}
use Rattle.whatif_session.specs.State.{SessionState, last_serial}

-- what a tree shows whose leaves all close with what a search is handed
abbrev pub closed_claim : Instance → Option Plan → Claim
closed_claim I None = Infeasible
closed_claim I (Some P) = Optimal (cost_of I P)

-- no solve that is kept has a greater serial number than the last one
abbrev pub AreCounted : SessionState → Type 0
AreCounted state = All (λ solve. solve.serial ≤ last_serial state) state.solves

-- the same session, where no answer stands
abbrev pub unanswered : SessionState → SessionState
unanswered state = record state { standing = None }
