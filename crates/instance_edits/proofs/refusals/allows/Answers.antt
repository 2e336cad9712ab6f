use Rattle.std.proofs.Common.{find, sym, ◌∙◌}
use Rattle.instance_edits.specs.Edits.{changed, faults_of}
use Rattle.instance_edits.proofs.Faults.{allowed-is, never_memory}
use Rattle.instance_edits.proofs.refusals.allows.Goals as goal

pub returns-clause-answer : goal.returns-clause-answer
returns-clause-answer c = c.refusal.ensures ∙ sym (allowed-is (changed c.args.inst.now c.args.edit.now) (find (λ fault. fault.0) (faults_of c.args.inst.now c.args.edit.now)))

pub returns-clause-memory : goal.returns-clause-memory
returns-clause-memory c = never_memory c.args.inst.now c.args.edit.now c.refusal.result c.refusal.ensures
