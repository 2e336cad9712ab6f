-- What a session is that begins with a scenario.
use Rattle.std.specs.Prelude.{◌≡◌, ◌≤◌, ℕ, List, [], length, None, Ok, All}
use Rattle.fixed_cost.specs.declared.limits.TheConstants.{MAX_INSTANCE_BYTES}
use Rattle.instance_text.specs.Own.{own_meaning}
use Rattle.scenario_keeper.specs.Scenario.{Scenario}
use Rattle.whatif_session.specs.declared.limits.TheConstants.{MAX_EDITS}
use Rattle.whatif_session.specs.State.{SessionView, IsPresent}
use Rattle.desk_session.specs.State.{AreLinesOf}

-- the session holds these lines' edits and no solve; they are few enough, and lead from its base to its instance
pub record HoldsLines (lines : List (List ℕ)) (session : SessionView) : Type 0 where
  pub lines_of : AreLinesOf lines session.state.edits
  pub few : length session.state.edits ≤ MAX_EDITS
  pub led : IsPresent session.state session.instance
  pub unsolved : (session.state.solves ≡ []) × (session.state.present ≡ None) × (session.state.standing ≡ None)
  pub serials : All (λ held. held.serial ≡ None) session.state.edits

-- the scenario's text, within its limit, means the session's base, and the session holds the edits of its lines
pub record LeadsTo (scenario : Scenario) (session : SessionView) : Type 0 where
  pub within : length scenario.base ≤ MAX_INSTANCE_BYTES
  pub base : own_meaning scenario.base ≡ Ok session.state.base
  pub holds : HoldsLines scenario.edits session
