use Rattle.std.proofs.Common.{◌≡◌, take}
use Rattle.instance_store.proofs.instance.copied_sites.Given as goal

-- the sites so far
abbrev pub invariant-loop-site : goal.invariant-loop-site
invariant-loop-site l = l.copies.items ≡ take l.site-index l.sites
