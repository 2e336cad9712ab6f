use Rattle.std.proofs.Common.{◌≡◌, ◌∙◌, sym, Some}
use Rattle.std.proofs.lemmas.Bool.{false≢true}
use Rattle.dual_value.specs.Lanes.{named_site}
use Rattle.dual_value.proofs.Settling.{states_set, states_kept, states_by_none}
use Rattle.dual_value.proofs.preparing.settle.Goals as goal

pub returns-in_default-clause-settled : goal.returns-in_default-clause-settled
returns-in_default-clause-settled c = λ path are. states_by_none c.args.inst.now path c.args.step.now c.args.states.now (sym c.named_site.ensures ∙ c.in_default.is) are

pub returns-in_default-site_at-clause-settled : goal.returns-in_default-site_at-clause-settled
returns-in_default-site_at-clause-settled c =
    let names : named_site c.args.step.now ≡ Some c.in-Some.id = cc in
    λ path are. states_kept c.args.inst.now c.args.step.now c.in-Some.id names path c.args.states.now (λ k. false≢true (c.in_default-site_at.ensures.known.1 k)) are

pub returns-clause-settled : goal.returns-clause-settled
returns-clause-settled c =
    let names : named_site c.args.step.now ≡ Some c.in-Some.id = cc in
    λ path are. states_set c.args.inst.now c.args.step.now c.in-Some.id names path c.args.states.now c.in-Some-site_at.site _ c.settled_by.result c.requires.valid c.in-Some-site_at.ensures.found c.settled_by.ensures are
