use Rattle.std.proofs.Common.{◌∙◌}
use Rattle.instance_edits.specs.Undo.{undone}
use Rattle.instance_edits.proofs.Faults.{accepts}
use Rattle.instance_edits.proofs.Restored.{restored}
use Rattle.instance_edits.proofs.applying.apply.Goals as goal

-- what was there before is what the inverse leads back to
pub returns-in-Ok-clause-back : goal.returns-in-Ok-clause-back
returns-in-Ok-clause-back c =
    (λ k. undone (c.in-Ok.ensures.changed k) (c.in-Ok.ensures.inverse k))
    ∙ restored c.args.inst.now c.in_ok-allows.ensures.valid c.args.edit.now (accepts c.args.inst.now c.args.edit.now c.in_ok-allows.ensures.answer)
