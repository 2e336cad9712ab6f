use Rattle.std.proofs.Common.{◌≡◌, ◌∙◌, refl, sym, Some}
use Rattle.std.proofs.lemmas.Bool.{false≢true}
use Rattle.dual_value.specs.LaneSteps.{named_customer}
use Rattle.dual_value.proofs.Chains.{chains_set, chains_kept, chains_by_none}
use Rattle.dual_value.proofs.lane_steps.chain.Goals as goal

pub returns-in_default-clause-chained : goal.returns-in_default-clause-chained
returns-in_default-clause-chained c = λ path befores long _ are. chains_by_none c.args.inst.now c.args.step.now path befores c.args.lasts.now long are 0 (sym c.named_customer.ensures ∙ c.in_default.is)

pub returns-in_default-cust_at-clause-chained : goal.returns-in_default-cust_at-clause-chained
returns-in_default-cust_at-clause-chained c =
    let names : named_customer c.args.step.now ≡ Some c.in-Some.id = cc in
    λ path befores long _ are. chains_kept c.args.inst.now c.args.step.now path befores c.args.lasts.now long are 0 c.in-Some.id names (λ k. false≢true (c.in_default-cust_at.ensures.known.1 k))

pub returns-clause-chained : goal.returns-clause-chained
returns-clause-chained c =
    let names : named_customer c.args.step.now ≡ Some c.in-Some.id = cc in
    λ path befores long at are.
    chains_set c.args.inst.now c.args.step.now path befores c.args.lasts.now long are c.args.place _ c.in-Some-cust_at.cust _ c.in-Some.id c.requires.valid c.requires.long c.in-Some-cust_at.ensures.found names at refl
