use Rattle.std.proofs.Common.{string_bytes}
use Rattle.dualoc_cli.proofs.NoCommands.{no_lane_range}
use Rattle.dualoc_cli.proofs.words.lane_range.Goals as goal

pub returns-in_default : goal.returns-in_default
returns-in_default c = no_lane_range string_bytes c.args.form.now c.args.file.now c.args.certificate.now c.args.words.now c.in_default.len_below
