use Rattle.std.proofs.Common.{◌<◌, ◌-◌, length, arith}
use Rattle.std.proofs.lemmas.List.{length-map}
use Rattle.plan_meaning.proofs.Rising.{rising_more, get_or-served}
use Rattle.plan_meaning.proofs.plan.customers_rise.Goals as goal

pub returns-then-number : goal.returns-then-number
returns-then-number c = (
  λ e. cc,
  λ up.
      let before : c.loop-k.k - 1 < length c.args.serves.now = omega arith in
      let here : c.loop-k.k < length c.args.serves.now = omega arith in
      let a = get_or-served c.args.serves.now (c.loop-k.k - 1) c.index-serves-k.result before in
      let b = get_or-served c.args.serves.now c.loop-k.k c.index-serves-k-in-loop-k.result here in
      absurd (grind (arith, up (c.loop-k.k - 1), length-map, a, b, c.number.ensures, c.number-in-loop-k.ensures)),
)

pub loop-k-preserved : goal.loop-k-preserved
loop-k-preserved c =
    let before : c.loop-k.k - 1 < length c.args.serves.now = omega arith in
    let here : c.loop-k.k < length c.args.serves.now = omega arith in
    let a = get_or-served c.args.serves.now (c.loop-k.k - 1) c.index-serves-k.result before in
    let b = get_or-served c.args.serves.now c.loop-k.k c.index-serves-k-in-loop-k.result here in
    rising_more _ c.loop-k.k (omega arith) c.loop-k.invariant (omega (arith, a, b, c.number.ensures, c.number-in-loop-k.ensures))
