use Rattle.std.proofs.Common.{get_or}
use Rattle.dual_adjust.specs.Paid.{is_paid}
use Rattle.dual_adjust.proofs.MoreThanOne.{IsSeen}
use Rattle.dual_adjust.proofs.slackness.pays_two.Given as goal

abbrev pub invariant-loop-site : goal.invariant-loop-site
invariant-loop-site l = IsSeen (λ i. is_paid l.boxed.instance l.boxed.path l.duals i l.cust) (λ r. get_or l.places r 0) l.site-index l.paid
