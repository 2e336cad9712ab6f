use Rattle.std.proofs.Common.{string_bytes}
use Rattle.dualoc_cli.proofs.NoCommands.{no_center}
use Rattle.dualoc_cli.proofs.words.center.Goals as goal

pub returns-in_default : goal.returns-in_default
returns-in_default c = no_center string_bytes c.args.words.now c.in_default.len_below
