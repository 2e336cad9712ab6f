use Rattle.std.proofs.Common.{◌≡◌, ◌∙◌, subst, sym, Option}
use Rattle.location_terms.specs.Instance.{Instance}
use Rattle.location_terms.specs.Plan.{Plan}
use Rattle.location_terms.specs.Tree.{StandsOn}
use Rattle.tree_search.specs.Answer.{IsAnswerTo}
use Rattle.tree_search.specs.Regrown.{IsRegrownFrom, HaveEnded, Answers}
use Rattle.tree_search.proofs.Offered.{if_ok, improved_in}
use Rattle.tree_search.proofs.Regrows.{answers_to, few_nodes}
use Rattle.tree_search.proofs.growing.grow.Goals as goal

pub grow_open-requires-clause-few : goal.grow_open-requires-clause-few
grow_open-requires-clause-few g c =
    few_nodes c.args.inst.now _ c.args.budget c.sites-sites.ensures.valid c.requires.start.few c.requires.start.within

pub answer-requires-clause-stands : goal.answer-requires-clause-stands
answer-requires-clause-stands g c =
    let here : c.grow_open.new.search.best.instance ≡ c.args.inst.now = c.in_ok-tree.ensures.plan.same ∙ c.in_ok-search.ensures.instance in
    let grown = c.in_ok-tree.ensures.grown.grown in
    subst (StandsOn c.in_ok-tree.tree) (sym here) (record { sites = grown.sites ∙ c.requires.start.stands.sites; customers = grown.customers ∙ c.requires.start.stands.customers })

pub answer-requires-clause-ended : goal.answer-requires-clause-ended
answer-requires-clause-ended g c =
    (c.args.budget, subst (λ (J : Instance). HaveEnded J c.grow_open.new.search.best.plan c.args.budget c.in_ok-tree.made c.in_ok-tree.tree) (sym c.in_ok-tree.ensures.plan.same) c.in_ok-tree.ensures.grown.ended)

pub returns : goal.returns
returns g c =
    let I = c.args.inst.now in
    let first = c.in_ok-search.search.best in
    let last = c.grow_open.new.search.best in
    let regrown : IsRegrownFrom I c.args.tree first.plan last.plan c.args.budget c.in_ok-tree.tree c.in_ok-tree.made =
    subst (λ (J : Instance). IsRegrownFrom J c.args.tree first.plan last.plan c.args.budget c.in_ok-tree.tree c.in_ok-tree.made) c.in_ok-search.ensures.instance c.in_ok-tree.ensures.grown in
    let here : last.instance ≡ I = c.in_ok-tree.ensures.plan.same ∙ c.in_ok-search.ensures.instance in
    let ended : HaveEnded last.instance last.plan c.args.budget c.in_ok-tree.made c.in_ok-tree.tree = subst (λ (J : Instance). HaveEnded J last.plan c.args.budget c.in_ok-tree.made c.in_ok-tree.tree) (sym here) regrown.ended in
    let later = improved_in I first last c.in_ok-search.ensures.instance c.in_ok-tree.ensures.plan in
    if_ok c.answer.result _ _
    (λ a answers.
    subst (λ (p : Option Plan). IsAnswerTo I c.args.tree p c.args.budget a) c.in_ok-search.ensures.plan
    (answers_to I c.args.tree c.in_ok-tree.tree first.plan last.plan c.args.budget c.in_ok-tree.made a regrown later (subst (λ (J : Instance). Answers J c.in_ok-tree.tree last.plan c.in_ok-tree.made c.args.budget a) here (answers c.args.budget ended))))
    c.answer.ensures
