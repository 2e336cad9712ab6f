use Rattle.pmed_paths.proofs.Cheapest.{least_walk}
use Rattle.pmed_paths.proofs.laws.least_walks.Goals as goal

pub returns : goal.returns
returns c = record { least = λ N a b net. least_walk N a b net }
