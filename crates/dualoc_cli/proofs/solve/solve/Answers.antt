use Rattle.std.proofs.Common.{arith}
use Rattle.dualoc_cli.proofs.solve.solve.Goals as goal

pub returns-then-sites-gt-MAX_WALK_SITES : goal.returns-then-sites-gt-MAX_WALK_SITES
returns-then-sites-gt-MAX_WALK_SITES c =
    λ r task. record { instance = c.args.inst; task = task; many = omega (arith, c.sites.ensures.count) }
