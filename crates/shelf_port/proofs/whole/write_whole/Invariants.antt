use Rattle.std.proofs.Common.{◌≡◌, ◌-◌, ◌≤◌, length, take}
use Rattle.shelf_port.specs.Streams.{with_back}
use Rattle.shelf_port.proofs.whole.write_whole.Given as goal

abbrev pub invariant-loop-done : goal.invariant-loop-done
invariant-loop-done g l =
    (l.done ≤ length l.bytes)
    × (g.O.Sink.written l.sink ≡ with_back (g.O.Sink.written l.fn.sink) (take l.done l.bytes))
    × (g.O.Sink.faults l.fn.sink ≤ g.O.Sink.faults l.sink)
    × ((g.O.Sink.refusals l.sink).count ≡ (g.O.Sink.refusals l.fn.sink).count)

abbrev pub decreases-loop-done : goal.decreases-loop-done
decreases-loop-done g l = length l.bytes - l.done
