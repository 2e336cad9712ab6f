use Rattle.std.proofs.Common.{arith}
use Rattle.pmed_paths.proofs.Medians.{near-row}
use Rattle.pmed_paths.proofs.median.lanes.Goals as goal

pub returns-clause-near : goal.returns-clause-near
returns-clause-near c = near-row c.args.distances.now (λ k below. c.loop-place.invariant.1 k (omega (arith, below, c.len-place-end.ensures)))
