use Rattle.std.proofs.Common.{◌≡◌, ◌+◌, ℕ, ◌-◌, List, [], ◌∷◌, ◌++◌, ap, sym, ◌∙◌, arith}
use Rattle.std.proofs.lemmas.List.FromFn.{map-range_with_len_more}
use Rattle.location_terms.specs.declared.limits.TheConstants.{MAX_AMOUNT}
use Rattle.plan_search.specs.Turns.{turn_of, first_turns}
use Rattle.plan_search.specs.declared.turns.Turn.{Turn}
use Rattle.plan_search.proofs.turns.turns.Goals as goal

pub loop-cust-preserved : goal.loop-cust-preserved
loop-cust-preserved c =
    let I = c.args.inst.now in
    let j = c.loop-cust.cust in
    let pushed : ℕ → Turn = λ demand. record { short = MAX_AMOUNT - demand; cust = j } in
    let more : first_turns I j ++ turn_of I j ∷ [] ≡ first_turns I (j + 1) = sym (map-range_with_len_more (turn_of I) 0 j j (omega arith)) in
    let item : pushed c.demand.result ≡ turn_of I j = ap pushed c.demand.ensures.exact in
    let items : c.loop-cust.turns.items ++ pushed c.demand.result ∷ [] ≡ first_turns I j ++ turn_of I j ∷ [] = ap (λ (p : List Turn × Turn). p.0 ++ p.1 ∷ []) (λ n. (c.loop-cust.invariant n, item n)) in
    c.in_ok-push.ensures.items ∙ (items ∙ more)
