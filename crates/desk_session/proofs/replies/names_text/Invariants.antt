use Rattle.std.proofs.Common.{◌≡◌, flat_map, take}
use Rattle.desk_session.specs.Replies.{name_line}
use Rattle.desk_session.proofs.replies.names_text.Given as goal

abbrev pub invariant-loop-k : goal.invariant-loop-k
invariant-loop-k l = l.text.items ≡ flat_map name_line (take l.k l.names)
