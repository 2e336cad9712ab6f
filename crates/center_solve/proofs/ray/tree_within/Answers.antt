use Rattle.center_solve.proofs.Rays.{ray_suits, tree_shows}
use Rattle.center_solve.proofs.ray.tree_within.Goals as goal

pub leaf-requires : goal.leaf-requires
leaf-requires c =
    ray_suits c.args.inst.now c.custs-custs.ensures.valid c.args.reach.cost c.args.reach.cust c.requires.known c.requires.least c.in_ok-bare.bare c.in_ok-bare.ensures c.in_ok-ray.ray c.set_v.new.self c.in_ok-ray.ensures c.set_v.ensures

pub returns-clause-shows : goal.returns-clause-shows
returns-clause-shows c =
    tree_shows c.args.inst.now c.custs-custs.ensures.valid c.args.reach.cost c.args.reach.cust c.requires.known c.requires.least c.in_ok-bare.bare c.in_ok-bare.ensures c.in_ok-ray.ray c.set_v.new.self c.in_ok-ray.ensures c.set_v.ensures c.in_ok-tree.tree c.in_ok-tree.ensures
