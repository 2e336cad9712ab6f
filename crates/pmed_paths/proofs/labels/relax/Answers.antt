use Rattle.std.proofs.Common.{rules}
use Rattle.pmed_paths.specs.Labels.{offers}
use Rattle.pmed_paths.proofs.Offers.{gone-more}
use Rattle.pmed_paths.proofs.labels.relax.Goals as goal

pub loop-k-preserved : goal.loop-k-preserved
loop-k-preserved c =
    gone-more c.args.row.now c.args.label c.loop-k.k c.args.labels.now (offers c.args.waiting.now) c.loop-k.labels (offers c.loop-k.waiting) c.offer.new.labels (offers c.offer.new.waiting) _ c.saturating_add.result
    c.loop-k-test.true (search rules) c.saturating_add.ensures c.loop-k.invariant c.in_ok-offer.ensures
