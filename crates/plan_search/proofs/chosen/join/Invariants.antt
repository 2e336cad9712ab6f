use Rattle.std.specs.Prelude.{◌&&◌, not}
use Rattle.location_terms.specs.Instance.{site_at}
use Rattle.location_terms.specs.Box.{is_free}
use Rattle.plan_search.specs.Flags.{is_set}
use Rattle.plan_search.proofs.Flagging.{AreJoined}
use Rattle.plan_search.proofs.chosen.join.Given as goal

abbrev pub invariant-loop-site : goal.invariant-loop-site
invariant-loop-site l = AreJoined (λ k. is_free l.boxed.path (site_at l.boxed.instance k) && not (is_set l.fn.flags k)) l.most l.site l.left l.fn.flags l.flags
