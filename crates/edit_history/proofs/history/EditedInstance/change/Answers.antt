use Rattle.std.proofs.Common.{◌≡◌, [], ◌∷◌, ◌++◌, ap, ◌∙◌}
use Rattle.edit_history.specs.declared.history.Held.{Held}
use Rattle.edit_history.specs.History.{History}
use Rattle.edit_history.proofs.Chains.{longer_chain, same_base}
use Rattle.edit_history.proofs.history.EditedInstance.change.Goals as goal

pub invariant_of-self-2 : goal.invariant_of-self-2
invariant_of-self-2 c =
    let h : Held = record { edit = c.args.edit; back = c.in_ok-back.back; serial = c.args.serial } in
    let items = c.in-Ok.ensures.items ∙ ap (λ hs. hs ++ h ∷ []) c.make_both_room.ensures.held in
    record {
      order = c.in_ok-back.ensures.order;
      chain = longer_chain c.self.inside.inst c.apply_in_order.new.inst c.self.inside.held.items c.push.new.self.items h items c.self.invariant.chain c.allows.ensures.valid c.in_ok-back.ensures.made c.in_ok-back.ensures.back;
    }

pub returns-clause-base : goal.returns-clause-base
returns-clause-base c =
    let h : Held = record { edit = c.args.edit; back = c.in_ok-back.back; serial = c.args.serial } in
    let items = c.in-Ok.ensures.items ∙ ap (λ hs. hs ++ h ∷ []) c.make_both_room.ensures.held in
    same_base c.self.inside.inst c.apply_in_order.new.inst c.self.inside.held.items c.push.new.self.items h items c.self.invariant.chain c.allows.ensures.valid c.in_ok-back.ensures.made c.in_ok-back.ensures.back
    ∙ ap (λ (x : History). x.base) c.self.view_is
