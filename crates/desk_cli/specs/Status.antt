-- The statuses of a desk: those of a session.
use Rattle.dualoc_cli.specs.declared.status.Status.{Status}
use Rattle.dualoc_cli.specs.declared.status.Status.TheVariants as statuses
use Rattle.desk_cli.specs.declared.status.DeskStatus.{DeskStatus}
use Rattle.desk_cli.specs.declared.status.DeskStatus.TheVariants.{Done, Usage, BadInput, ReadFault, WriteFault, TooLarge, NoMemory}

abbrev pub session_status : DeskStatus → Status
session_status Done = statuses.Done
session_status Usage = statuses.Usage
session_status BadInput = statuses.BadInput
session_status ReadFault = statuses.ReadFault
session_status WriteFault = statuses.WriteFault
session_status TooLarge = statuses.TooLarge
session_status NoMemory = statuses.NoMemory
