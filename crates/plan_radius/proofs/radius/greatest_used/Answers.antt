use Rattle.std.proofs.Common.{◌≡◌, ℕ, ◌<◌, max, map, length, get_or, sym, ap, ◌∙◌, arith}
use Rattle.std.specs.Prelude.{unwrap_or}
use Rattle.std.proofs.lemmas.List.{length-map, get_or-map}
use Rattle.std.proofs.lemmas.List.Sums.{fold_more}
use Rattle.location_terms.specs.Instance.{lane}
use Rattle.plan_radius.proofs.radius.greatest_used.Goals as goal

pub loop-k-preserved : goal.loop-k-preserved
loop-k-preserved c =
    let serves = c.args.plan.now.serves in
    let k = c.loop-k.k in
    let f : ℕ × ℕ → ℕ = λ v. unwrap_or (lane c.args.inst.now v.1 v.0) 0 in
    let within : k < length serves = omega (arith, c.loop-k-test.true, c.serve_count-k-end.ensures.count) in
    let cost : c.unwrap-cost.result ≡ get_or (map f serves) k 0 = sym (get_or-map f serves k (0, 0) 0 within ∙ ap (λ o. unwrap_or o 0) (sym c.lane_used.ensures.exact ∙ c.unwrap-cost.ensures)) in
    let small = rw c.unwrap-cost.ensures at c.lane_used.ensures.small in
    record {
      exact = c.max-greatest.ensures ∙ (λ i. max (c.loop-k.invariant.exact i) (cost i)) ∙ sym (fold_more max 0 (map f serves) k 0 (omega (arith, within, length-map serves f)));
      small = omega (arith, c.max-greatest.ensures, small, c.loop-k.invariant.small);
    }
