use Rattle.std.proofs.Common.{◌≡◌, take}
use Rattle.location_terms.specs.Instance.{site_ids}
use Rattle.branch_tree.proofs.tree.site_list.Given as goal

abbrev pub invariant-loop-site : goal.invariant-loop-site
invariant-loop-site l = l.ids.items ≡ take l.site (site_ids l.inst)
