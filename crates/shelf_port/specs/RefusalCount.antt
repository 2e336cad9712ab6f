-- What an output counted of its calls.
use Rattle.shelf_port.specs.Streams.{Refusals}
use Rattle.shelf_port.specs.declared.refusal_count.RefusalCount.{RefusalCount}

abbrev pub counted : RefusalCount → Refusals
counted calls = record { count = calls.count; last = calls.last }
