use Rattle.std.proofs.Common.{◌≡◌, ◌∙◌, sym, ap, subst}
use Rattle.std.specs.Prelude.{IfSome}
use Rattle.std.proofs.lemmas.Bool.{both_ways}
use Rattle.location_terms.specs.Instance.{Instance}
use Rattle.location_terms.specs.Plan.{IsFeasible}
use Rattle.location_terms.specs.Tree.{AllClose, low_of}
use Rattle.tree_search.specs.declared.answer.Answer.TheVariants.{Bracket}
use Rattle.tree_search.specs.Regrown.{Answers}
use Rattle.tree_search.proofs.Shown.{bracket_answers}
use Rattle.tree_search.proofs.growing.answer.Goals as goal

pub returns-then-not-branch : goal.returns-then-not-branch
returns-then-not-branch c = λ budget ended.
    let I = c.args.search.best.instance in
    let t = c.args.tree in
    let plan = c.args.search.best.plan in
    let same : c.instance-inst.result.now ≡ I = c.instance-inst.ensures in
    subst (λ p. Answers I t plan c.args.made budget (Bracket c.in_ok-low.low p t c.args.made)) (sym c.into_plan-plan.ensures.exact)
    (bracket_answers I plan budget c.args.made t c.nodes-nodes.ensures.tree c.requires.stands ended c.in_ok-low.low (c.in_ok-low.ensures.exact ∙ ap (λ (J : Instance). low_of J t) same)
    (subst (λ p. IfSome p (IsFeasible I)) c.into_plan-plan.ensures.exact c.into_plan-plan.ensures.feasible)
    (λ all. both_ways _ c.if-not-branch.true (c.in_ok-accepts_by.ensures.exact.1 (subst (λ (J : Instance). AllClose J t c.cost.result) (sym same) (subst (AllClose I t) (sym c.cost.ensures) all)))))
