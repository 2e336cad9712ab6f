use Rattle.shelf_port.proofs.Told.{given_further}
use Rattle.shelf_port.proofs.mem_streams.MemSourceSource.read.Goals as goal

pub returns-clause-bytes : goal.returns-clause-bytes
returns-clause-bytes c = given_further _ _ _ _ _ _ c.deref.ensures.value c.copy_from-count.ensures.reads
