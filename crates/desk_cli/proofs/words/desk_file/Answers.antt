use Rattle.std.proofs.Common.{string_bytes}
use Rattle.desk_cli.proofs.NamedFile.{no_desk}
use Rattle.desk_cli.proofs.words.desk_file.Goals as goal

pub returns-in_default : goal.returns-in_default
returns-in_default c = no_desk string_bytes c.args.words.now c.in_default.len_below
