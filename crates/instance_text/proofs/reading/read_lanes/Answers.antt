use Rattle.std.proofs.Common.{◌≡◌, ◌+◌, ◌-◌, ◌∷◌, ◌++◌, [], suc, arith, rules}
use Rattle.std.proofs.lemmas.Result.{err_from_is_err_and}
use Rattle.fixed_cost.specs.declared.fault.FormFault.TheVariants.{File}
use Rattle.fixed_cost.proofs.ReadSteps.{many_at-next, many_at-fails, many_at-done}
use Rattle.instance_text.specs.Own.{maybe_at}
use Rattle.instance_text.proofs.reading.read_lanes.Goals as goal

pub returns-in_err-lane : goal.returns-in_err-lane
returns-in_err-lane c =
    let p = err_from_is_err_and c.from_residual-in_err-lane.result c.from_residual-in_err-lane.ensures.1 in
    let more : c.args.count - c.loop.counter ≡ suc (c.args.count - (c.loop.counter + 1)) = omega arith in
    rw (p.1, p.2) (many_at-fails (λ _. maybe_at) c.loop.lanes c.loop.counter _ _ c.loop.reader (File c.in_err-lane.field-0.0) _ more c.in_err-lane.ensures.read c.loop.invariant)

pub loop-preserved : goal.loop-preserved
loop-preserved c =
    let more : c.args.count - c.loop.counter ≡ suc (c.args.count - (c.loop.counter + 1)) = omega arith in
    let pushed : c.push.new.self ≡ c.loop.lanes ++ c.in_ok-lane.lane ∷ [] = search rules in
    rw pushed (many_at-next (λ _. maybe_at) c.loop.lanes c.loop.counter _ _ c.loop.reader c.in_ok-lane.lane c.maybe.new.reader _ more c.in_ok-lane.ensures.read c.loop.invariant)

pub returns : goal.returns
returns c = many_at-done (λ _. maybe_at) c.loop.lanes c.loop.counter _ c.loop.reader _ (omega arith) c.loop.invariant
