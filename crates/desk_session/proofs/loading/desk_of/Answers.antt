use Rattle.std.proofs.Common.{subst}
use Rattle.desk_session.specs.Loaded.{based_on}
use Rattle.desk_session.specs.Done.{IsLoadFault}
use Rattle.desk_session.proofs.Loads.{bad_base}
use Rattle.desk_session.proofs.loading.desk_of.Goals as goal

pub returns-in-Err-clause-fault : goal.returns-in-Err-clause-fault
returns-in-Err-clause-fault c = bad_base c.args.scenario.now c.in-Err.fault (subst (λ b. IsLoadFault (based_on b) c.in-Err.fault) c.base.ensures c.in-Err.ensures.fault)
