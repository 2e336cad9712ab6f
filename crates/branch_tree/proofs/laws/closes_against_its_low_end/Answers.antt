use Rattle.branch_tree.proofs.LowEnd.{closes_against_low}
use Rattle.branch_tree.proofs.laws.closes_against_its_low_end.Goals as goal

pub returns : goal.returns
returns c = closes_against_low
