use Rattle.std.proofs.Common.{◌∙◌, ap}
use Rattle.dual_steps.specs.Sizes.{sizes_of}
use Rattle.side_multipliers.proofs.Rises.{same_is_no_worse, no_worse_again}
use Rattle.side_multipliers.proofs.improving.improve_in.Goals as goal

pub loop-round-init : goal.loop-round-init
loop-round-init c =
    record {
      sizes = c.start_from.ensures ∙ c.restart.ensures ∙ c.enter.ensures ∙ c.in_ok-steps.ensures ∙ ap sizes_of c.instance.ensures;
      no_worse = same_is_no_worse c.args.boxed.now.instance c.args.boxed.now.path c.args.best.now c.requires.risen;
    }

pub loop-round-preserved : goal.loop-round-preserved
loop-round-preserved c =
    record {
      sizes = c.round.ensures.sizes ∙ c.loop-round.invariant.sizes;
      no_worse = no_worse_again c.args.boxed.now.instance c.args.boxed.now.path c.args.best.now c.loop-round.best c.round.new.best c.loop-round.invariant.no_worse c.in_ok-round.ensures.no_worse;
    }
