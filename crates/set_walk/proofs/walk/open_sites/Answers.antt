use Rattle.std.proofs.Common.{◌++◌, [], ◌∷◌, ◌<◌, length, arith, ap, sym, ◌∙◌}
use Rattle.std.proofs.lemmas.Bool.{iff_false}
use Rattle.set_walk.proofs.Steps.{opened_before, opened_more_has, opened_more_lacks}
use Rattle.set_walk.proofs.walk.open_sites.Goals as goal
use Rattle.set_walk.proofs.walk.open_sites.Goals.{then-has+in_ok-push, else-has}

pub loop-place-preserved : goal.loop-place-preserved
loop-place-preserved c =
    let I = c.args.inst.now in
    let set = c.args.set.bits in
    let i = c.loop-place.place in
    let within : i < length I.sites = omega (arith, c.sites-place-end.ensures.count) in
    elim c.if-has.branch [
      | then-has+in_ok-push w ↦ (let more = opened_more_has I set i within (c.has.ensures.0 w.if-has.true) in let pushed = w.in_ok-push.ensures.items in ap (λ v. v.items) w.sites-is ∙ pushed ∙ ap (λ ids. ids ++ w.site_id.result ∷ []) c.loop-place.invariant ∙ ap (λ s. opened_before I set i ++ s ∷ []) w.site_id.ensures ∙ sym more)
      | else-has w ↦ (let more = opened_more_lacks I set i within (iff_false c.has.ensures w.if-has.false) in ap (λ v. v.items) w.sites-is ∙ c.loop-place.invariant ∙ sym more)
    ]
