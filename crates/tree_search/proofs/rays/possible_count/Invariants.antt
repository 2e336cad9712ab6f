use Rattle.std.proofs.Common.{◌≡◌, length}
use Rattle.std.specs.Prelude.{not}
use Rattle.location_terms.specs.Instance.{site_at}
use Rattle.location_terms.specs.Box.{is_closed}
use Rattle.plan_search.proofs.Flagging.{passing}
use Rattle.tree_search.proofs.rays.possible_count.Given as goal

abbrev pub invariant-loop-site : goal.invariant-loop-site
invariant-loop-site l = l.count ≡ length (passing (λ i. not (is_closed l.boxed.path (site_at l.boxed.instance i))) l.site)
