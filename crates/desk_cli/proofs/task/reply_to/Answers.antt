use Rattle.std.proofs.Common.{map, string_bytes, sym}
use Rattle.instance_forms.specs.Forms.{file_in}
use Rattle.desk_cli.proofs.NamedFile.{named_small}
use Rattle.desk_cli.proofs.Parts.{no_row, replied, halted}
use Rattle.desk_cli.proofs.task.reply_to.Goals as goal

pub open-requires : goal.open-requires
open-requires g c = named_small (map string_bytes c.args.words.now) (file_in c.in-Some.file) (sym c.in-Some.ensures)

pub returns-in-Ok-clause-replied : goal.returns-in-Ok-clause-replied
returns-in-Ok-clause-replied g c =
    replied (map string_bytes c.args.words.now) _ _ _ _ _ c.open.ensures.unchanged c.open.ensures.writes (file_in c.in-Some.file) (sym c.in-Some.ensures) c.in-Ok.inst c.in-Ok.ensures.reading c.held.result c.held.ensures.ended

pub returns-in-Ok-clause-halted : goal.returns-in-Ok-clause-halted
returns-in-Ok-clause-halted g c =
    halted (map string_bytes c.args.words.now) _ _ _ _ _ c.open.ensures.unchanged c.open.ensures.writes (file_in c.in-Some.file) (sym c.in-Some.ensures) c.in-Ok.inst c.in-Ok.ensures.reading c.held.result c.held.ensures.halted

pub returns-in-Err-NoMemory-clause-halted : goal.returns-in-Err-NoMemory-clause-halted
returns-in-Err-NoMemory-clause-halted g c = λ later. no_row (map string_bytes c.args.words.now) _ _ _ c.open.ensures.unchanged later
