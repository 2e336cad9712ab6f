use Rattle.std.proofs.Common.{ℕ, ◌<◌}
use Rattle.std.specs.Prelude.{IsTrue, slice_index}
use Rattle.location_terms.specs.Instance.{site_at}
use Rattle.location_terms.specs.Box.{holds_demand, is_opened}
use Rattle.tree_search.proofs.forced.overfull.Given as goal

abbrev pub invariant-loop-site : goal.invariant-loop-site
invariant-loop-site l = (i : ℕ) → i < l.site → IsTrue (is_opened l.boxed.path (site_at l.boxed.instance i)) → IsTrue (holds_demand (site_at l.boxed.instance i).cap (slice_index l.loads i))
