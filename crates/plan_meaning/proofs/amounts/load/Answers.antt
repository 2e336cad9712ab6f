use Rattle.std.proofs.Common.{◌≡◌, ℕ, ◌<◌, cond, true, false, length, ap, sym, ◌∙◌, arith}
use Rattle.std.specs.Prelude.{◌==◌}
use Rattle.location_terms.specs.Instance.{demand_of}
use Rattle.location_terms.proofs.Places.{demand_of-customer_at}
use Rattle.plan_meaning.specs.Plan.{serve_at}
use Rattle.plan_meaning.proofs.Served.{customer_served, as_many_served}
use Rattle.plan_meaning.proofs.Sums.{sum_by-filter_more}
use Rattle.plan_meaning.proofs.amounts.load.Goals as goal
use Rattle.plan_meaning.proofs.amounts.load.Goals.{then-eq, else-eq}

pub loop-k-preserved : goal.loop-k-preserved
loop-k-preserved c =
    let I = c.args.inst.now in
    let P = c.args.plan.now in
    let k = c.loop-k.k in
    let within : k < length P.serves = omega (arith, c.serve_count-k-end.ensures.count) in
    let f : ℕ × ℕ → ℕ = λ v. demand_of I v.0 in
    let more = sum_by-filter_more f (λ v. v.1 == c.args.site) P.serves k (0, 0) within in
    let is : c.eq.result ≡ ((serve_at P k).1 == c.args.site) = c.eq.ensures ∙ ap (λ v. v.1 == c.args.site) c.serve-from.ensures in
    elim c.if-eq.branch [
      | then-eq w ↦
          let yes : ((serve_at P k).1 == c.args.site) ≡ true = sym is ∙ w.if-eq.true in
          let demand : w.demand-load.result ≡ f (serve_at P k) = w.demand-load.ensures.exact ∙ sym (demand_of-customer_at I k c.requires.valid.customers_named.rising (omega (arith, as_many_served I P c.requires.once))) ∙ ap (demand_of I) (sym (customer_served I P c.requires.once k within)) in
          record { exact = omega (arith, c.loop-k.invariant.exact, ap (λ t. cond t (f (serve_at P k)) 0) yes, demand, more, w.load-is); small = omega (arith, w.load-is, w.demand-load.ensures.small, c.loop-k.invariant.small) }
      | else-eq w ↦
          let no : ((serve_at P k).1 == c.args.site) ≡ false = sym is ∙ w.if-eq.false in
          record { exact = omega (arith, c.loop-k.invariant.exact, ap (λ t. cond t (f (serve_at P k)) 0) no, more, w.load-is); small = omega (arith, w.load-is, c.loop-k.invariant.small) }
    ]
