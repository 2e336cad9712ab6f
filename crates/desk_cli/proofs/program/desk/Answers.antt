use Rattle.shelf_port.specs.Ports.{SinkState, sink_state}
use Rattle.desk_cli.proofs.Ends.{runs, ended, without_memory, ended_in_row}
use Rattle.desk_cli.proofs.program.desk.Goals as goal

pub returns-in-Ok : goal.returns-in-Ok
returns-in-Ok g c =
    let output : SinkState = sink_state (g.O.Sink.written c.print_reply.new.out) (g.O.Sink.faults c.print_reply.new.out) (g.O.Sink.refusals c.print_reply.new.out) in
    let comes = c.in-Ok.ensures.replied output in
    runs _ c.print_reply.result (ended _ c.print_reply.result _ c.in-Ok.reply comes c.print_reply.ensures)

pub returns-in-Err-NoMemory : goal.returns-in-Err-NoMemory
returns-in-Err-NoMemory g c =
    let output : SinkState = sink_state (g.O.Sink.written c.print.new.out) (g.O.Sink.faults c.print.new.out) (g.O.Sink.refusals c.print.new.out) in
    let out = rw c.in-Err-NoMemory.field-0-is at c.in-Err-NoMemory.ensures.halted in
    runs _ c.print.result (without_memory _ c.print.result _ (out output) c.print.ensures)

pub returns-in-Err-Refused : goal.returns-in-Err-Refused
returns-in-Err-Refused g c =
    let output : SinkState = sink_state (g.O.Sink.written c.reply_to.new.out) (g.O.Sink.faults c.reply_to.new.out) (g.O.Sink.refusals c.reply_to.new.out) in
    let stopped = rw c.in-Err-Refused.field-0-is at c.in-Err-Refused.ensures.halted in
    runs _ c.status_of_cut.result (ended_in_row _ c.status_of_cut.result c.in-Err-Refused.fault (stopped output) (rw c.in-Err-Refused.fault-is at c.status_of_cut.ensures))
