use Rattle.std.proofs.Common.{ap, ◌∙◌}
use Rattle.edit_history.specs.History.{History}
use Rattle.edit_history.proofs.Chains.{last_step, shorter_chain, base_stays}
use Rattle.edit_history.proofs.history.EditedInstance.take_back.Goals as goal

pub led_back-requires-clause-leads : goal.led_back-requires-clause-leads
led_back-requires-clause-leads c =
    (last_step c.self.inside.inst c.self.inside.inst c.pop.new.self.items c.self.inside.held.items c.in-Some.last c.in-Some.ensures.items c.self.invariant.chain).back

pub invariant_of-self-in-Ok : goal.invariant_of-self-in-Ok
invariant_of-self-in-Ok c = record {
  order = c.in-Ok.ensures.order;
  chain = shorter_chain c.led_back.new.inst c.self.inside.inst c.pop.new.self.items c.self.inside.held.items c.in-Some.last c.in-Some.ensures.items c.self.invariant.chain c.in-Ok.ensures.undone;
}

pub returns-in-Ok-clause-base : goal.returns-in-Ok-clause-base
returns-in-Ok-clause-base c =
    base_stays c.led_back.new.inst c.self.inside.inst c.pop.new.self.items c.self.inside.held.items c.in-Some.last c.in-Some.ensures.items c.self.invariant.chain c.in-Ok.ensures.undone
    ∙ ap (λ (x : History). x.base) c.self.view_is
