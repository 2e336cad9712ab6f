use Rattle.std.proofs.Common.{arith, ap, ◌∙◌}
use Rattle.std.proofs.lemmas.List.{length-drop}
use Rattle.shelf_port.proofs.Told.{written_further}
use Rattle.shelf_port.proofs.whole.write_whole.Goals as goal

pub loop-done-preserved : goal.loop-done-preserved
loop-done-preserved g c = (
  omega (arith, length-drop c.loop-done.done c.args.bytes.now, c.in_ok-done.ensures.bound),
  written_further _ _ _ _ _ _ c.loop-done.invariant.1 c.in_ok-done.ensures.ok,
  omega (arith, c.in_ok-done.ensures.counts),
  ap (λ r. r.count) c.in_ok-done.ensures.taken ∙ c.loop-done.invariant.3,
)
