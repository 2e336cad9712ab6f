-- What an input and an output in memory tell, and how their calls go.
use Rattle.std.specs.Prelude.{ℕ, List, drop}
use Rattle.shelf_port.specs.Streams.{Refusals}
use Rattle.shelf_port.specs.RefusalCount.{counted}
use Rattle.shelf_port.specs.declared.plan.CallPlan.{CallPlan}
use Rattle.shelf_port.specs.declared.mem_streams.MemSource.{MemSource}
use Rattle.shelf_port.specs.declared.mem_streams.MemSink.{MemSink}

-- the bytes that are left
abbrev pub left_of : MemSource → List ℕ
left_of source = drop source.at source.bytes.items

-- which reads fail, and how much one gives
abbrev pub input_plan : MemSource → CallPlan
input_plan source = source.plan

-- how many reads failed
abbrev pub read_faults_of : MemSource → ℕ
read_faults_of source = source.faults

-- the bytes that were written
abbrev pub written_to : MemSink → List ℕ
written_to sink = sink.written.items

-- which writes fail, and how much one takes
abbrev pub output_plan : MemSink → CallPlan
output_plan sink = sink.plan

-- how many writes failed
abbrev pub write_faults_of : MemSink → ℕ
write_faults_of sink = sink.faults

-- which writes were refused
abbrev pub refusals_of : MemSink → Refusals
refusals_of sink = counted sink.refusals
