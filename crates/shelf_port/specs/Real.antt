-- How many calls on the host failed.
use Rattle.std.specs.Prelude.{ℕ}
use Rattle.shelf_port.specs.Streams.{Refusals}
use Rattle.shelf_port.specs.RefusalCount.{counted}
use Rattle.shelf_port.specs.declared.real.RealShelf.{RealShelf}
use Rattle.shelf_port.specs.declared.real.RealSource.{RealSource}
use Rattle.shelf_port.specs.declared.real.RealSink.{RealSink}

-- of the reads of files
abbrev pub file_read_faults : {R F : Type 0} → RealShelf R F → ℕ
file_read_faults shelf = shelf.read_faults

-- of the writes of files
abbrev pub file_write_faults : {R F : Type 0} → RealShelf R F → ℕ
file_write_faults shelf = shelf.write_faults

-- of the reads of the input
abbrev pub input_faults : {R : Type 0} → RealSource R → ℕ
input_faults source = source.faults

-- of the writes of the output
abbrev pub output_faults : {R : Type 0} → RealSink R → ℕ
output_faults sink = sink.faults

-- which writes of the output were refused
abbrev pub output_refusals : {R : Type 0} → RealSink R → Refusals
output_refusals sink = counted sink.refusals
