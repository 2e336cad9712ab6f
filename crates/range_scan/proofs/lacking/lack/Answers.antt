use Rattle.std.proofs.Common.{ℕ, List, subst}
use Rattle.location_terms.specs.Instance.{Instance}
use Rattle.location_terms.specs.Plan.{cost_of}
use Rattle.location_terms.specs.Box.{Path}
use Rattle.location_terms.specs.Bound.{Duals}
use Rattle.range_scan.specs.Short.{IsLack}
use Rattle.range_scan.proofs.lacking.lack.Goals as goal

pub returns : goal.returns
returns c =
    let lack = c.in_ok-lack.lack in
    subst (λ (ls : List (Path × Duals)). IsLack c.args.inst.now (cost_of c.args.inst.now c.args.plan.now) ls lack) c.in_ok-leaves.ensures.leaves
    (subst (λ (n : ℕ). IsLack c.args.inst.now n c.in_ok-leaves.field-0 lack) c.cost-target.ensures
    (subst (λ (J : Instance). IsLack J c.cost-target.result c.in_ok-leaves.field-0 lack) c.of-bounds.ensures c.in_ok-lack.ensures))
