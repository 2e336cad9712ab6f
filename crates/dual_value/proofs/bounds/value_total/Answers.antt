use Rattle.std.proofs.Common.{◌≡◌, ◌≤◌, ◌<◌, sym, arith, pos, length}
use mir.Syntax.{w128}
use mir.Val.{to_z}
use Rattle.std.specs.Int.RustNames.{unsigned_abs}
use Rattle.location_terms.specs.Bound.{v_at}
use Rattle.location_terms.specs.declared.limits.TheConstants.{MAX_VALUE}
use Rattle.dual_value.proofs.Sizes.{total_none, total_step, size_step}
use Rattle.dual_value.proofs.bounds.value_total.Goals as goal

pub loop-cust-init : goal.loop-cust-init
loop-cust-init g c = record { exact = sym (total_none _); small = omega arith }

pub loop-cust-preserved : goal.loop-cust-preserved
loop-cust-preserved g c =
    let d = g.D.DualsByPlace.numbers c.args.duals.now in
    let j = c.loop-cust.cust in
    let as_many = c.requires.fit.of_instance.customers in
    let within : j < length d.v = omega arith in
    let value = c.v-sum.result in
    let at : value ≡ v_at d j = c.v-sum.ensures in
    let size : unsigned_abs value ≤ MAX_VALUE = rw at (c.requires.fit.in_limits.values j (pos 0) within) in
    let sum = to_z w128 c.loop-cust.sum-bits in
    let few = c.requires.valid.sizes.few_customers in
    record {
      exact = total_step (v_at d) j MAX_VALUE sum value c.loop-cust.invariant.exact c.loop-cust.invariant.small at size (omega arith);
      small = size_step j MAX_VALUE sum value c.loop-cust.invariant.small size (omega arith);
    }
