use Rattle.dual_value.proofs.Chains.{IsWalked}
use Rattle.dual_value.proofs.lane_steps.chain_bars.Given as goal

abbrev pub invariant-loop-at : goal.invariant-loop-at
invariant-loop-at l = IsWalked l.path l.site l.cust l.at

abbrev pub decreases-loop-at : goal.decreases-loop-at
decreases-loop-at l = l.at
