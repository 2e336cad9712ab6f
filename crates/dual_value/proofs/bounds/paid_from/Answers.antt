use Rattle.std.proofs.Common.{◌≡◌, ◌≤◌, ◌<◌, ◌*◌, ◌∙◌, true, sym, arith, length}
use mir.Syntax.{w128}
use mir.Val.{to_z, of_z}
use Rattle.std.specs.Int.RustNames.{unsigned_abs}
use Rattle.std.proofs.lemmas.Int.{ints}
use Rattle.location_terms.specs.Instance.{lane, site_at, customer_at}
use Rattle.location_terms.specs.Bound.{v_at, paid_at}
use Rattle.dual_value.specs.Paid.{is_dear}
use Rattle.dual_value.proofs.Payments.{value_small, unpaid_when_is_dear}
use Rattle.location_terms.specs.declared.limits.TheConstants.{MAX_VALUE}
use Rattle.dual_value.proofs.Sizes.{total_none, total_more, total_step, abs_from, kept}
use Rattle.dual_value.proofs.bounds.paid_from.Goals as goal
use Rattle.dual_value.proofs.bounds.paid_from.Goals.{then-not-is_dear, else-not-is_dear}

pub loop-cust-init : goal.loop-cust-init
loop-cust-init g c = record { exact = sym (total_none _); low = omega (arith, ints); high = omega (arith, ints) }

pub loop-cust-preserved : goal.loop-cust-preserved
loop-cust-preserved g c =
    let I = c.args.inst.now in
    let path = c.args.path.now.steps.now in
    let d = g.D.DualsByPlace.numbers c.args.duals.now in
    let j = c.loop-cust.cust in
    let value = c.v-value.result in
    let at : value ≡ v_at d j = c.v-value.ensures in
    let inside : j < length I.customers = omega (arith, c.loop-cust-test.true, c.len-cust-end.ensures, c.lanes-lanes.ensures.length) in
    let size : unsigned_abs (v_at d j) ≤ MAX_VALUE = value_small I path d c.requires.valid c.requires.fit j inside in
    let bits : to_z w128 (of_z w128 value) ≡ v_at d j = rw at (kept (v_at d j) MAX_VALUE size (omega arith)) in
    let lane_is : c.get-cost.result ≡ lane I (site_at I c.args.site).id (customer_at I j).id = c.get-cost.ensures.exact ∙ c.lanes-lanes.ensures.each j inside in
    let more = total_more (paid_at I path d c.args.site) j in
    let sum = to_z w128 c.loop-cust.sum-bits in
    let sum_size : unsigned_abs sum ≤ j * MAX_VALUE = abs_from sum (j * MAX_VALUE) (omega (arith, ints, c.loop-cust.invariant.high)) (omega (arith, ints, c.loop-cust.invariant.low)) in
    elim c.if-not-is_dear.branch [
      | then-not-is_dear w ↦
          let paid : w.paid_by-sum.result ≡ paid_at I path d c.args.site j = rw (c.q-q.ensures, c.u-price.ensures, bits) at w.paid_by-sum.ensures.exact in
          let paid_size : unsigned_abs w.paid_by-sum.result ≤ MAX_VALUE = abs_from w.paid_by-sum.result MAX_VALUE (omega (arith, ints, w.paid_by-sum.ensures.high)) (omega (arith, ints, w.paid_by-sum.ensures.low)) in
          let few = c.requires.valid.sizes.few_customers in
          let next = w.sum-is ∙ total_step (paid_at I path d c.args.site) j MAX_VALUE sum w.paid_by-sum.result c.loop-cust.invariant.exact sum_size paid paid_size (omega (arith, few, inside)) in
          let low = w.paid_by-sum.ensures.low in
          let high = w.paid_by-sum.ensures.high in
          record { exact = next; low = omega (arith, ints, next, more, paid, low); high = omega (arith, ints, next, more, paid, high) }
      | else-not-is_dear w ↦
          let dear : is_dear d.q (v_at d j) (lane I (site_at I c.args.site).id (customer_at I j).id) ≡ true = rw (c.q-q.ensures, bits, lane_is) at (sym c.is_dear.ensures ∙ w.if-not-is_dear.false) in
          let unpaid = unpaid_when_is_dear I path d c.args.site j _ (λ _. lane I (site_at I c.args.site).id (customer_at I j).id) dear in
          record { exact = omega (arith, ints, w.sum-is, more, unpaid); low = omega (arith, ints, w.sum-is); high = omega (arith, ints, w.sum-is) }
    ]
