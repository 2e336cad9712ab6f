use Rattle.scenario_keeper.proofs.Names.{pushed-rise}
use Rattle.scenario_keeper.proofs.name_list.NameList.push.Goals as goal

pub invariant_of-self-2 : goal.invariant_of-self-2
invariant_of-self-2 c = pushed-rise _ _ _ _ c.self.view_is c.in_ok-push.ensures.items c.self.invariant c.requires
