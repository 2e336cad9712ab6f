use Rattle.scenario_keeper.proofs.Names.{no_names-rise}
use Rattle.scenario_keeper.proofs.name_list.NameList.new.Goals as goal

pub invariant_of-result : goal.invariant_of-result
invariant_of-result c = rw c.new.ensures.items no_names-rise
