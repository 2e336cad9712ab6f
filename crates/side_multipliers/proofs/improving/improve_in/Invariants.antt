use Rattle.std.proofs.Common.{◌≡◌}
use Rattle.dual_steps.specs.Sizes.{sizes_of}
use Rattle.side_multipliers.specs.Better.{IsNoWorse}
use Rattle.side_multipliers.proofs.improving.improve_in.Given as goal

abbrev pub invariant-loop-round : goal.invariant-loop-round
invariant-loop-round l = record {
  sizes : l.steps ≡ sizes_of l.boxed.instance;
  no_worse : IsNoWorse l.boxed.instance l.boxed.path l.initial.best l.best;
}
