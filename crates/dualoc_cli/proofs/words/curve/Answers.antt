use Rattle.std.proofs.Common.{string_bytes}
use Rattle.dualoc_cli.proofs.NoCommands.{no_curve}
use Rattle.dualoc_cli.proofs.words.curve.Goals as goal

pub returns-in_default : goal.returns-in_default
returns-in_default c = no_curve string_bytes c.args.words.now c.in_default.len_below
