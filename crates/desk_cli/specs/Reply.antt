-- What a run of the desk ends with: its status, and its text.
use Rattle.std.specs.Prelude.{ℕ, List, Option, None, Some}
use Rattle.whatif_session.specs.Run.{Stop, AtEnd, AtLongLine, AtLongInput, AtFailedRead, OutOfMemory, AtRefusedWrite}
use Rattle.dualoc_cli.specs.declared.reply.Reply.{Reply}
use Rattle.dualoc_cli.specs.declared.reply.Reply.TheVariants as replies
use Rattle.dualoc_cli.specs.declared.reply.Port.TheVariants as port
use Rattle.dualoc_cli.specs.declared.reply.Refusal.TheVariants as refusal
use Rattle.dualoc_cli.specs.declared.reply.Outcome.TheVariants as outcome
use Rattle.dualoc_cli.specs.Reply.{text_of}
use Rattle.desk_cli.specs.declared.status.DeskStatus.{DeskStatus}
use Rattle.desk_cli.specs.declared.status.DeskStatus.TheVariants.{Done, Usage, BadInput, ReadFault, TooLarge}
use Rattle.desk_cli.specs.declared.reply.DeskReply.{DeskReply}
use Rattle.desk_cli.specs.declared.reply.DeskReply.TheVariants.{NoDesk, FileFailed, InputFailed, LongInstance, Faulty, LongLine, LongInput, Ended}

abbrev pub desk_status : DeskReply → DeskStatus
desk_status NoDesk = Usage
desk_status FileFailed = ReadFault
desk_status InputFailed = ReadFault
desk_status LongInstance = TooLarge
desk_status (Faulty fault) = BadInput
desk_status LongLine = TooLarge
desk_status LongInput = TooLarge
desk_status Ended = Done

-- what a run of `dualoc` answers in such a case
abbrev pub session_reply : DeskReply → Reply
session_reply NoDesk = replies.NoCommand
session_reply FileFailed = replies.Failed port.Instance
session_reply InputFailed = replies.Failed port.Input
session_reply LongInstance = replies.Refused refusal.LongInstance
session_reply (Faulty fault) = replies.Refused (refusal.Faulty fault)
session_reply LongLine = replies.Refused refusal.LongLine
session_reply LongInput = replies.Refused refusal.LongInput
session_reply Ended = replies.Reached outcome.Ended

-- the text is that of a session
abbrev pub desk_text : DeskReply → List ℕ
desk_text reply = text_of (session_reply reply)

-- the reply to the end of an input, or to why no more of it was read; none where memory ran out or the output refused a reply
abbrev pub stop_reply : Stop → Option DeskReply
stop_reply AtEnd = Some Ended
stop_reply AtLongLine = Some LongLine
stop_reply AtLongInput = Some LongInput
stop_reply AtFailedRead = Some InputFailed
stop_reply OutOfMemory = None
stop_reply AtRefusedWrite = None
