use Rattle.std.proofs.Common.{◌≡◌, map, take}
use Rattle.trial_instance.specs.Trial.{site_lanes}
use Rattle.trial_instance.proofs.instance.rows.Given as goal

-- the rows so far
abbrev pub invariant-loop-site : goal.invariant-loop-site
invariant-loop-site l = l.rows.items ≡ take l.site-index (map (site_lanes l.custs) l.sites)
