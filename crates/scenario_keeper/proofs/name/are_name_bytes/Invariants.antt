use Rattle.std.proofs.Common.{◌≡◌, true, take}
use Rattle.std.specs.List.{list_all}
use Rattle.scenario_keeper.specs.Spelling.{is_name_byte}
use Rattle.scenario_keeper.proofs.name.are_name_bytes.Given as goal

abbrev pub invariant-loop-byte : goal.invariant-loop-byte
invariant-loop-byte l = list_all is_name_byte (take l.byte-index l.word) ≡ true
