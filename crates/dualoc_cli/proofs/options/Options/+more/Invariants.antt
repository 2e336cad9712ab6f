use Rattle.std.proofs.Common.{length}
use Rattle.dualoc_cli.proofs.options.Options.+more.Given as goal

abbrev pub decreases-more : goal.decreases-more
decreases-more l = length l.words.now
