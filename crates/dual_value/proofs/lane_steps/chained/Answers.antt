use Rattle.std.proofs.Common.{◌≡◌, ◌+◌, ◌∙◌, [], refl, get_or, ap, subst, arith, take, length}
use Rattle.std.proofs.lemmas.List.{length_push, take_all, length-replicate, get_or-replicate}
use Rattle.location_terms.specs.Instance.{customer_at}
use Rattle.dual_value.specs.LaneSteps.{AreChains}
use Rattle.dual_value.proofs.Chains.{chains_taken, chain_of_sites}
use Rattle.dual_value.proofs.lane_steps.chained.Goals as goal

pub loop-step-preserved : goal.loop-step-preserved
loop-step-preserved c = record {
  long = c.chain-before.ensures.long ∙ c.loop-step.invariant.long;
  count = omega (arith, ap length c.in_ok-push.ensures.items, length_push c.loop-step.befores.items c.chain-before.result, c.loop-step.invariant.count);
  chains = chains_taken c.args.inst.now c.args.path.now c.as_slice-step-items.result.now c.loop-step.step-index _ c.chain-before.result c.step-item.result c.loop-step.lasts c.chain-before.new.lasts c.loop-step.befores.items c.push.new.self.items
      c.as_slice-step-items.ensures c.loop-step-test.true c.step-item.is c.loop-step.invariant.count (ap (λ n. n + 1) (c.len.ensures ∙ c.loop-step.befores.ok.0)) c.in_ok-push.ensures.items c.chain-before.ensures.long c.chain-before.ensures.chained c.loop-step.invariant.chains;
}

pub loop-step-init : goal.loop-step-init
loop-step-init c = record {
  long = ap length c.requires.none ∙ length-replicate (length c.args.inst.now.customers) 0;
  count = ap length c.in_ok-befores.ensures.items;
  chains = λ j b. chain_of_sites [] c.in_ok-befores.befores.items (customer_at c.args.inst.now j).id (get_or c.args.lasts.now j 0) refl (ap (λ xs. get_or xs j 0) c.requires.none ∙ get_or-replicate (length c.args.inst.now.customers) j 0 0 b);
}

pub returns-clause-chained : goal.returns-clause-chained
returns-clause-chained c =
    let path = c.args.path.now in
    let all : take c.loop-step.step-index path ≡ path = take_all c.loop-step.step-index path (omega (arith, c.loop-step-test.false, ap length c.as_slice-step-items.ensures)) in
    subst (λ p. AreChains c.args.inst.now p c.loop-step.lasts c.loop-step.befores.items) all c.loop-step.invariant.chains
