use Rattle.std.proofs.Common.{◌≡◌, ℕ, subst, arith, length}
use Rattle.std.specs.Int.{IsGcd}
use Rattle.leaf_bounds.proofs.Divisors.{IsUnitTo, unit_of_more, unit_is, unit_positive}
use Rattle.leaf_bounds.proofs.small.demand_unit.Goals as goal

pub loop-cust-preserved : goal.loop-cust-preserved
loop-cust-preserved c =
    unit_of_more c.args.inst.now c.loop-cust.cust c.loop-cust.unit c.common_divisor-unit.result c.loop-cust.invariant
    (subst (λ (n : ℕ). IsGcd c.loop-cust.unit n c.common_divisor-unit.result) c.demand.ensures.exact c.common_divisor-unit.ensures)

pub returns-clause-exact : goal.returns-clause-exact
returns-clause-exact c =
    let all : c.loop-cust.cust ≡ length c.args.inst.now.customers = omega (arith, c.custs-cust-end.ensures.count) in
    unit_is c.args.inst.now c.loop-cust.unit (subst (λ (k : ℕ). IsUnitTo c.args.inst.now k c.loop-cust.unit) all c.loop-cust.invariant) c.requires

pub returns-clause-positive : goal.returns-clause-positive
returns-clause-positive c =
    let all : c.loop-cust.cust ≡ length c.args.inst.now.customers = omega (arith, c.custs-cust-end.ensures.count) in
    unit_positive c.args.inst.now c.loop-cust.unit (subst (λ (k : ℕ). IsUnitTo c.args.inst.now k c.loop-cust.unit) all c.loop-cust.invariant) c.requires
