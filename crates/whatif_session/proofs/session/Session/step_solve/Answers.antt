use Rattle.std.proofs.Common.{◌≡◌, ◌≤◌, ℕ, true, false, sym, ap, subst, ◌∙◌}
use Rattle.location_terms.specs.Instance.{Instance}
use Rattle.location_terms.specs.Tree.{nodes_of}
use Rattle.tree_search.specs.Answer.{claim_in, made_in, tree_in}
use Rattle.tree_search.specs.Budget.{max_budget, budget_in}
use Rattle.session_lines.specs.Replies.{solve_text}
use Rattle.whatif_session.specs.State.{present_solve}
use Rattle.whatif_session.specs.Step.{solved}
use Rattle.whatif_session.proofs.Steps.{solve_done}
use Rattle.whatif_session.proofs.session.Session.step_solve.Goals as goal

pub returns-clause-done : goal.returns-clause-done
returns-clause-done c =
    let inst = c.args.self.now.instance in
    let answer = c.in_ok-found.found.answer in
    let in_force : c.in-Some.budget ≡ budget_in inst c.args.given = c.in-Some.ensures.exact ∙ ap (λ (I : Instance). budget_in I c.args.given) c.instance.ensures.same in
    let small : c.in-Some.budget ≤ max_budget inst = subst (λ (I : Instance). c.in-Some.budget ≤ max_budget I) c.instance.ensures.same c.in-Some.ensures.small in
    let claim : c.outcome_of-outcome.result.claim ≡ claim_in inst answer = c.outcome_of-outcome.ensures.claim ∙ ap (λ (I : Instance). claim_in I answer) c.instance-2.ensures.same in
    let text = c.in_ok-text.ensures ∙ (λ i. solve_text (claim i) (c.outcome_of-outcome.ensures.made i) (c.outcome_of-outcome.ensures.nodes i) c.in-Some.budget) in
    solve_done c.args.self.now c.take_in.new.self c.args.given c.of.result c.in-Some.budget answer in_force small c.in_ok-found.ensures.answer c.take_in.ensures.state (c.of.ensures ∙ (λ i. record { text = text i; ended = false }))
