-- The statuses of a run.
use Rattle.std.specs.Prelude.{ℕ}
use Rattle.dualoc_cli.specs.declared.status.Status.{Status}
use Rattle.dualoc_cli.specs.declared.status.Status.TheVariants.{Done, Infeasible, Bracket, CheckNo, Usage, BadInput, ReadFault, WriteFault, TooLarge, NoMemory, Refused}

-- the number with which the program ends
abbrev pub exit_number : Status → ℕ
exit_number Done = 0
exit_number Infeasible = 1
exit_number Bracket = 2
exit_number CheckNo = 3
exit_number Usage = 4
exit_number BadInput = 5
exit_number ReadFault = 6
exit_number WriteFault = 7
exit_number TooLarge = 8
exit_number NoMemory = 9
exit_number Refused = 10

-- the status of a run where a write of the text that is due with this one failed: a result that isn't printed whole is none
abbrev pub when_cut : Status → Status
when_cut Done = WriteFault
when_cut Infeasible = WriteFault
when_cut Bracket = WriteFault
when_cut CheckNo = WriteFault
when_cut Usage = Usage
when_cut BadInput = BadInput
when_cut ReadFault = ReadFault
when_cut WriteFault = WriteFault
when_cut TooLarge = TooLarge
when_cut NoMemory = NoMemory
when_cut Refused = WriteFault
