use Rattle.std.proofs.Common.{arith}
use Rattle.std.proofs.lemmas.List.{length-drop}
use Rattle.shelf_port.proofs.Told.{added_further}
use Rattle.shelf_port.proofs.whole.append_whole.Goals as goal

pub loop-done-preserved : goal.loop-done-preserved
loop-done-preserved g c = (
  omega (arith, length-drop c.loop-done.done c.args.bytes.now, c.in_ok-done-2.ensures.bound),
  added_further _ _ _ _ _ _ _ c.loop-done.invariant.1 c.in_ok-done-2.ensures.ok,
  λ name. omega (arith, c.in_ok-done-2.ensures.reads name, c.loop-done.invariant.2 name),
  λ name. omega (arith, c.in_ok-done-2.ensures.writes name, c.loop-done.invariant.3 name),
)
