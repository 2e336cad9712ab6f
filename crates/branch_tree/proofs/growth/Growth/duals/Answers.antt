use Rattle.std.proofs.Common.{◌≡◌, ◌∙◌, sym, ap, option_map, Some}
use Rattle.location_terms.specs.Box.{Path}
use Rattle.location_terms.specs.Bound.{Duals}
use Rattle.branch_tree.proofs.Growing.{worked_on, leaf_on}
use Rattle.branch_tree.proofs.growth.Growth.duals.Goals as goal

pub returns : goal.returns
returns c =
    let on = worked_on c.self.invariant c.args.self.now c.self.view_is c.requires in
    let same : Some on.0 ≡ Some c.in-Some.duals = sym on.1 ∙ c.in-Some.is in
    ap (option_map (λ (l : Path × Duals). l.1)) (leaf_on c.self.invariant c.args.self.now c.self.view_is c.requires) ∙ same
