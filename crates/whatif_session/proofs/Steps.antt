-- What a line that solves does.
use Rattle.std.proofs.Common.{◌≡◌, ℕ, ◌+◌, ◌-◌, ◌≤◌, Bool, true, false, List, [], ◌∷◌, ◌++◌, length, Option, Some, refl, sym, ap, subst, ◌∙◌, arith}
use Rattle.std.specs.Prelude.{nat_lt, Err, MatchBool}
use Rattle.std.proofs.lemmas.Bool.{le-ltb}
use Rattle.shelf_port.specs.Ports.{ShelfState}
use Rattle.location_terms.specs.Tree.{nodes_of}
use Rattle.tree_search.specs.declared.answer.Answer.{Answer}
use Rattle.tree_search.specs.Answer.{claim_in, made_in, tree_in, plan_in}
use Rattle.tree_search.specs.Budget.{max_budget, budget_in}
use Rattle.session_lines.specs.declared.fault.SessionFault.TheVariants as fault
use Rattle.session_lines.specs.Lines.{Solve}
use Rattle.session_lines.specs.Replies.{solve_text}
use Rattle.whatif_session.specs.State.{Solved, SessionView, last_serial, present_solve}
use Rattle.whatif_session.specs.Step.{IsReplied, Solves, SolvesWithin, solved, moment_at}
use Rattle.whatif_session.specs.Search.{IsFoundFrom}
use Rattle.whatif_session.specs.Shown.{Replied}
use Rattle.whatif_session.specs.Done.{HasDoneAlone}
use Rattle.whatif_session.proofs.Rings.{last_kept}

within_does : (large : Bool) (large_do small_do : Type 0) → large ≡ false → small_do → MatchBool large large_do small_do
within_does large large_do small_do is done = subst (λ b. MatchBool b large_do small_do) (sym is) done

module _ (p q : SessionView) (given : Option ℕ) (reply : Replied) where
  pub solve_done : (budget : ℕ) (answer : Answer) → budget ≡ budget_in p.instance given → budget ≤ max_budget p.instance → IsFoundFrom p.instance (present_solve p.state) budget answer → q.state ≡ solved p.state p.instance answer
      → reply ≡ record { text = solve_text (claim_in p.instance answer) (made_in answer) (nodes_of (tree_in answer)) budget; ended = false } → HasDoneAlone (Some (Solve given)) p reply q
  solve_done budget answer in_force small found state text shelf =
      let within : nat_lt (max_budget p.instance) budget ≡ false = le-ltb (max_budget p.instance) budget small in
      let solves : Solves p.instance budget (moment_at p.state shelf) reply.text (moment_at q.state shelf) = record {
        answer = answer;
        is_solved = record { handed = found.handed; is_handed = found.is_handed; found = found.found; stands = found.stands };
        replies = record { reply_is = λ i. (text i).text; left = state; files = refl };
      } in
      let next : Solved = record { serial = last_serial p.state + 1; tree = tree_in answer; plan = plan_in answer } in
      let serial : last_serial q.state ≡ last_serial p.state + 1 = ap last_serial state ∙ last_kept p.state.solves next in
      record {
        does = subst (λ n. SolvesWithin p.instance n (moment_at p.state shelf) reply.text (moment_at q.state shelf)) in_force
            (within_does (nat_lt (max_budget p.instance) budget) (IsReplied (Err fault.BudgetTooLarge) (moment_at p.state shelf) reply.text (moment_at q.state shelf)) (Solves p.instance budget (moment_at p.state shelf) reply.text (moment_at q.state shelf)) within solves);
        ended = λ i. (text i).ended;
        serial = omega (arith, serial);
      }
