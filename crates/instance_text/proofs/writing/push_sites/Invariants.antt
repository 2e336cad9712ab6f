use Rattle.std.proofs.Common.{◌≡◌, ◌++◌, flat_map, take}
use Rattle.instance_text.specs.Behind.{line}
use Rattle.instance_text.specs.OwnText.{site_words}
use Rattle.instance_text.proofs.writing.push_sites.Given as goal

abbrev pub invariant-loop-i : goal.invariant-loop-i
invariant-loop-i l = l.text.items ≡ l.fn.text.items ++ flat_map (λ x. line (site_words l.inst x)) (take l.i l.inst.sites)
