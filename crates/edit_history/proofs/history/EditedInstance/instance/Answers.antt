use Rattle.std.proofs.Common.{subst}
use Rattle.edit_history.specs.History.{LeadsOn}
use Rattle.edit_history.proofs.Chains.{leads_on}
use Rattle.edit_history.proofs.history.EditedInstance.instance.Goals as goal

pub returns-clause-leads : goal.returns-clause-leads
returns-clause-leads c = subst LeadsOn c.self.view_is (leads_on c.self.inside.inst c.self.inside.held.items c.self.invariant.chain)
