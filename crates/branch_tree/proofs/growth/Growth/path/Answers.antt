use Rattle.std.proofs.Common.{ap, option_map}
use Rattle.location_terms.specs.Box.{Path}
use Rattle.location_terms.specs.Bound.{Duals}
use Rattle.branch_tree.proofs.Growing.{leaf_on}
use Rattle.branch_tree.proofs.growth.Growth.path.Goals as goal

pub returns : goal.returns
returns c = ap (option_map (λ (l : Path × Duals). l.0)) (leaf_on c.self.invariant c.args.self.now c.self.view_is c.requires)
