use Rattle.std.proofs.Common.{◌≡◌, ◌∙◌, refl, sym, ap, subst, inl, inr}
use Rattle.std.proofs.lemmas.Bool.{both_ways}
use Rattle.location_terms.specs.Instance.{Instance, IsValid}
use Rattle.dual_adjust.specs.Slackness.{tight_sites}
use Rattle.plan_search.specs.InBox.{IsNoWorse}
use Rattle.plan_search.specs.Packed.{packed}
use Rattle.tree_search.specs.Making.{Making}
use Rattle.tree_search.specs.Searching.{Searching}
use Rattle.tree_search.proofs.Offered.{offered_sought, closed_sought}
use Rattle.tree_search.proofs.Verdicts.{verdict_on}
use Rattle.tree_search.proofs.Going.{improves_same, goes_on_plan}
use Rattle.tree_search.proofs.work.verdict.Goals as goal

pub returns-then-is_closed-clause-plan : goal.returns-then-is_closed-clause-plan
returns-then-is_closed-clause-plan g c = improves_same _ _ refl

pub returns-then-is_closed-clause-verdict : goal.returns-then-is_closed-clause-verdict
returns-then-is_closed-clause-verdict g c =
    let I = c.args.boxed.now.instance in
    let closed = c.is_closed.ensures.0 c.if-is_closed.true in
    let valid : IsValid I = subst IsValid (c.instance.ensures ∙ c.requires.instance) c.sites-sites.ensures.valid in
    record {
      sought = closed_sought I c.args.boxed.now.path c.args.search.now.leaf.best.duals c.args.search.now.best.plan valid c.requires.path c.requires.making.2.best_risen.tame.fit.of_instance closed;
      whole = λ none. inl closed;
      halved = tt;
    }

pub is_closed-requires-2 : goal.is_closed-requires-2
is_closed-requires-2 g c = (goes_on_plan c.args.boxed.now c.args.search.now c.offer.new.self c.requires c.offer.ensures.improves c.offer.ensures.leaf).at

pub returns-then-not-may_split-clause-verdict : goal.returns-then-not-may_split-clause-verdict
returns-then-not-may_split-clause-verdict g c =
    let I = c.args.boxed.now.instance in
    let path = c.args.boxed.now.path in
    let t = c.offer.new.self in
    let same : c.search.inside.leaf ≡ t.leaf = ap (λ (s : Searching). s.leaf) c.search.view_is ∙ sym c.offer.ensures.leaf in
    let is = c.deref.ensures.value ∙ c.in_ok-hint.ensures ∙ ap (λ (m : Making). tight_sites I path m.best.duals) same in
    let offered : IsNoWorse I t.best.plan (packed I path c.deref.result.now) = subst (IsNoWorse I t.best.plan) c.in_ok-plan.ensures.exact (subst (λ (J : Instance). IsNoWorse J t.best.plan c.in_ok-plan.plan) c.requires.instance c.offer.ensures.offered) in
    record {
      sought = λ scaled. offered_sought I path t.leaf.best.duals t.best.plan c.deref.result.now is offered;
      whole = λ none. inr (inl c.if-not-may_split.true);
      halved = tt;
    }

pub returns-then-is_closed-2-clause-verdict : goal.returns-then-is_closed-2-clause-verdict
returns-then-is_closed-2-clause-verdict g c =
    let I = c.args.boxed.now.instance in
    let path = c.args.boxed.now.path in
    let t = c.offer.new.self in
    let same : c.search.inside.leaf ≡ t.leaf = ap (λ (s : Searching). s.leaf) c.search.view_is ∙ sym c.offer.ensures.leaf in
    let is = c.deref.ensures.value ∙ c.in_ok-hint.ensures ∙ ap (λ (m : Making). tight_sites I path m.best.duals) same in
    let offered : IsNoWorse I t.best.plan (packed I path c.deref.result.now) = subst (IsNoWorse I t.best.plan) c.in_ok-plan.ensures.exact (subst (λ (J : Instance). IsNoWorse J t.best.plan c.in_ok-plan.plan) c.requires.instance c.offer.ensures.offered) in
    record {
      sought = λ scaled. offered_sought I path t.leaf.best.duals t.best.plan c.deref.result.now is offered;
      whole = λ none. inl (c.is_closed-2.ensures.0 c.if-is_closed-2.true);
      halved = tt;
    }

pub returns-clause-verdict : goal.returns-clause-verdict
returns-clause-verdict g c =
    let I = c.args.boxed.now.instance in
    let path = c.args.boxed.now.path in
    let t = c.offer.new.self in
    let same : c.search.inside.leaf ≡ t.leaf = ap (λ (s : Searching). s.leaf) c.search.view_is ∙ sym c.offer.ensures.leaf in
    let is = c.deref.ensures.value ∙ c.in_ok-hint.ensures ∙ ap (λ (m : Making). tight_sites I path m.best.duals) same in
    let offered : IsNoWorse I t.best.plan (packed I path c.deref.result.now) = subst (IsNoWorse I t.best.plan) c.in_ok-plan.ensures.exact (subst (λ (J : Instance). IsNoWorse J t.best.plan c.in_ok-plan.plan) c.requires.instance c.offer.ensures.offered) in
    verdict_on I path t.leaf.best.duals t.best.plan c.args.may_split c.split_of.result
    (λ scaled. offered_sought I path t.leaf.best.duals t.best.plan c.deref.result.now is offered)
    c.if-not-may_split.false
    (λ closed. both_ways _ c.if-is_closed-2.false (c.is_closed-2.ensures.1 closed))
    c.split_of.ensures.some c.split_of.ensures.none
