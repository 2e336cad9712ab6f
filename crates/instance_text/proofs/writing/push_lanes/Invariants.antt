use Rattle.std.proofs.Common.{◌≡◌, ◌∷◌, ◌++◌, flat_map, take}
use Rattle.instance_text.specs.OwnText.{amount_or_none}
use Rattle.instance_text.proofs.writing.push_lanes.Given as goal

abbrev pub invariant-loop-k : goal.invariant-loop-k
invariant-loop-k l = l.text.items ≡ l.fn.text.items ++ flat_map (λ x. 32 ∷ amount_or_none x) (take l.k l.lanes)
