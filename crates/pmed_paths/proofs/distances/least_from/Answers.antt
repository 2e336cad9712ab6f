use Rattle.std.proofs.Common.{◌≡◌, ◌+◌, ◌-◌, arith}
use Rattle.pmed_paths.proofs.Searches.{costs-length, costs-walks}
use Rattle.pmed_paths.proofs.distances.least_from.Goals as goal

pub returns-clause-length : goal.returns-clause-length
returns-clause-length c =
    let turned : c.args.vertex - 1 + 1 ≡ c.args.vertex = omega (arith, c.requires.first) in
    costs-length c.args.net.now (c.args.vertex - 1 + 1) c.args.vertex c.distances_from.result turned c.distances_from.ensures

pub returns-clause-walks : goal.returns-clause-walks
returns-clause-walks c =
    let turned : c.args.vertex - 1 + 1 ≡ c.args.vertex = omega (arith, c.requires.first) in
    costs-walks c.args.net.now c.arcs_of.ensures.network (c.args.vertex - 1 + 1) c.args.vertex c.distances_from.result turned c.distances_from.ensures
