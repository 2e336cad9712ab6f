-- For private functions alone: no public contract cites this page.
-- What a request in memory asks of a keeper.
use Rattle.desk_session.specs.declared.request.KeeperRequest.{KeeperRequest}
use Rattle.desk_session.specs.declared.request.KeeperRequest.TheVariants as in_memory
use Rattle.desk_session.specs.Lines.{KeeperLine, Keep, Load, Forget, Names}

abbrev pub asked_of : KeeperRequest → KeeperLine
asked_of (in_memory.Keep name) = Keep name.now
asked_of (in_memory.Load name) = Load name.now
asked_of (in_memory.Forget name) = Forget name.now
asked_of in_memory.Names = Names
