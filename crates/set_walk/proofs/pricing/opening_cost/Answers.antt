use Rattle.std.proofs.Common.{◌<◌, length, arith}
use Rattle.std.proofs.lemmas.Bool.{iff_false}
use Rattle.set_walk.proofs.Steps.{opened_more_lacks, opening_more_has}
use Rattle.location_terms.specs.Instance.{fixed_of}
use Rattle.std.proofs.Common.{ap, sum_by}
use Rattle.set_walk.proofs.pricing.opening_cost.Goals as goal
use Rattle.set_walk.proofs.pricing.opening_cost.Goals.{then-has, else-has}

pub loop-place-preserved : goal.loop-place-preserved
loop-place-preserved c =
    let I = c.args.inst.now in
    let set = c.args.set.bits in
    let i = c.loop-place.place in
    let within : i < length I.sites = omega (arith, c.sites-place-end.ensures.count) in
    elim c.if-has.branch [
      | then-has w ↦ (let more = opening_more_has I c.sites-place-end.ensures.valid set i within (c.has.ensures.0 w.if-has.true) in record { so_far = omega (arith, more); small = omega arith })
      | else-has w ↦ (let more = ap (sum_by (fixed_of I)) (opened_more_lacks I set i within (iff_false c.has.ensures w.if-has.false)) in record { so_far = omega (arith, more); small = omega arith })
    ]
