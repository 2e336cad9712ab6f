use Rattle.std.proofs.Common.{take}
use Rattle.dual_adjust.specs.Paid.{ArePlacesOf}
use Rattle.dual_adjust.proofs.slackness.places_of.Given as goal

abbrev pub invariant-loop-site : goal.invariant-loop-site
invariant-loop-site l = ArePlacesOf l.inst (take l.site-index l.sites) l.places.items
