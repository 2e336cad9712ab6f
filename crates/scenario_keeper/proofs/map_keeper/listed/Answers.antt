use Rattle.std.proofs.Common.{◌≡◌, ◌∷◌}
use Rattle.std.specs.Map.Iter.{deref_pair}
use Rattle.std.proofs.lemmas.Map.Iter.{rest_more, rest_all}
use Rattle.scenario_keeper.proofs.Tables.{listed-above, listed-all}
use Rattle.scenario_keeper.proofs.map_keeper.listed.Goals as goal

pub push-requires : goal.push-requires
push-requires c =
    let left : c.loop-name.name-iterator ≡ (c.in-Some.name.now, c.in-Some.scenario.now) ∷ c.next.new.self = rest_more deref_pair _ _ _ _ c.in-Some.is c.next.ensures.steps in
    listed-above _ _ _ _ _ _ _ c.iter-name-items.ensures.ordered c.loop-name.invariant left c.in_ok-from_str.ensures.ok c.deref.ensures

pub returns : goal.returns
returns c =
    let none = rest_all deref_pair _ _ _ c.in-None.is c.next.ensures.steps in
    listed-all _ _ _ c.iter-name-items.ensures.ordered c.loop-name.invariant none
