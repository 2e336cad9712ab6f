use Rattle.std.proofs.Common.{◌≡◌, Option, sym, ap, subst, ◌∙◌}
use Rattle.std.specs.Prelude.{option_map}
use Rattle.std.specs.Option.{option_copied}
use Rattle.location_terms.specs.Instance.{Instance}
use Rattle.tree_search.specs.Answer.{IsWithin}
use Rattle.whatif_session.specs.State.{Solved, SessionView, present_solve}
use Rattle.whatif_session.specs.Kept.{told_solve}
use Rattle.whatif_session.specs.Search.{IsFoundFrom}
use Rattle.whatif_session.proofs.Starts.{found_of}
use Rattle.whatif_session.proofs.session.Session.search.Goals as goal

pub returns-clause-answer : goal.returns-clause-answer
returns-clause-answer c =
    let inst : Instance = c.instance-inst.result.now in
    let answer = c.in_ok-found.found.answer in
    let same : inst ≡ c.args.self.now.instance = c.instance-inst.ensures.same ∙ ap (λ (p : SessionView). p.instance) c.self.view_is in
    let within : IsWithin inst c.args.budget = subst (λ (I : Instance). IsWithin I c.args.budget) (sym same) c.requires in
    let found : IsFoundFrom inst (option_map told_solve (option_copied c.present_solve-former.result)) c.args.budget answer =
    found_of inst (option_copied c.present_solve-former.result) c.in_ok-start.start c.args.budget answer c.sites-sites.ensures.valid c.in_ok-start.ensures c.present_solve-former.ensures.once within c.in_ok-found.ensures.answer in
    subst (λ (I : Instance). IsFoundFrom I (present_solve c.args.self.now.state) c.args.budget answer) same
    (subst (λ (f : Option Solved). IsFoundFrom inst f c.args.budget answer) c.present_solve-former.ensures.found found)
