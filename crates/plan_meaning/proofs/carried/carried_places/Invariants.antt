use Rattle.std.proofs.Common.{◌≡◌, All, map, take}
use Rattle.std.specs.Prelude.{filter}
use Rattle.location_terms.specs.Carried.{is_carried}
use Rattle.plan_meaning.specs.Carried.{IsAt}
use Rattle.plan_meaning.proofs.carried.carried_places.Given as goal

abbrev pub invariant-loop-i : goal.invariant-loop-i
invariant-loop-i l = (map (λ x. x.0) l.opened.items ≡ map (λ x. x.id) (filter (is_carried l.plan) (take l.i l.inst.sites))) × All (IsAt l.inst) l.opened.items
