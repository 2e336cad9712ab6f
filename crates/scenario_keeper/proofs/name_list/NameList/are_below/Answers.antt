use Rattle.std.proofs.Common.{ap, ◌∙◌, is_lt}
use Rattle.scenario_keeper.proofs.Names.{above-by-last, order}
use Rattle.scenario_keeper.proofs.name_list.NameList.are_below.Goals as goal

pub returns-in-Some : goal.returns-in-Some
returns-in-Some c = above-by-last _ _ _ _ _ _ _ c.self.view_is c.self.invariant c.deref.ensures.value c.in-Some.ensures.cases (c.is_below.ensures ∙ ap (λ n. is_lt (order n c.args.name.now)) c.deref-in-Some.ensures)
