use Rattle.std.proofs.Common.{◌≡◌, ℕ, ◌<◌, ◌≤◌, List, map, length, get_or, ltb, None, Some, option_map, find, ap, sym, subst, ◌∙◌, arith, rules}
use Rattle.std.specs.Prelude.{◌==◌}
use Rattle.std.specs.List.Sorted.{IsStrictlyIncreasing}
use Rattle.std.proofs.lemmas.Bool.{eqb-true, eqb-false, ltb-true, ltb-false}
use Rattle.std.proofs.lemmas.List.{get_or_default}
use Rattle.std.proofs.lemmas.List.Sorted.{IsPartitionPoint-from_clause}
use Rattle.location_terms.specs.Plan.{Plan}
use Rattle.plan_meaning.proofs.Carrying.{keys_fall_apart, found_there, not_found}
use Rattle.plan_meaning.proofs.plan.Plan.server.Goals as goal

pub returns-in_err-cust-clause-exact : goal.returns-in_err-cust-clause-exact
returns-in_err-cust-clause-exact c =
    let vs : List (ℕ × ℕ) = c.deref.result.now in
    let id : ℕ = c.args.id in
    let k : ℕ = c.partition_point-k.result in
    let same : vs ≡ c.args.self.now.serves = c.deref.ensures.value ∙ ap (λ (P : Plan). P.serves) c.self.view_is in
    let up : IsStrictlyIncreasing (map (λ (v : ℕ × ℕ). v.0) vs) = rw c.deref.ensures.value c.self.invariant.customers_rise in
    let point = IsPartitionPoint-from_clause (λ v. ltb v.0 id) vs k c.partition_point-k.ensures.partitioned (keys_fall_apart vs up id k) (λ a r q k. search rules) in
    let again : length c.deref-2.result.now ≡ length vs = ap length (c.deref-2.ensures.value ∙ sym c.deref.ensures.value) in
    let past : length c.deref-2.result.now ≤ k = ltb-false _ _ (sym c.in_err-cust.ensures.lookup.0) in
    c.from_residual.ensures ∙ ap (option_map (λ (v : ℕ × ℕ). v.1)) (sym (subst (λ ys. find (λ v. v.0 == id) ys ≡ None) same (not_found vs up id k point (λ b _. omega (arith, b, past, again)))))

pub returns-then-eq-clause-exact : goal.returns-then-eq-clause-exact
returns-then-eq-clause-exact c =
    let vs : List (ℕ × ℕ) = c.deref.result.now in
    let id : ℕ = c.args.id in
    let k : ℕ = c.partition_point-k.result in
    let same : vs ≡ c.args.self.now.serves = c.deref.ensures.value ∙ ap (λ (P : Plan). P.serves) c.self.view_is in
    let up : IsStrictlyIncreasing (map (λ (v : ℕ × ℕ). v.0) vs) = rw c.deref.ensures.value c.self.invariant.customers_rise in
    let point = IsPartitionPoint-from_clause (λ v. ltb v.0 id) vs k c.partition_point-k.ensures.partitioned (keys_fall_apart vs up id k) (λ a r q k. search rules) in
    let again : c.deref-2.result.now ≡ vs = c.deref-2.ensures.value ∙ sym c.deref.ensures.value in
    let within : k < length vs = omega (arith, ap length again, ltb-true _ _ (sym c.in_ok-cust.ensures.lookup.0)) in
    let here : c.in_ok-cust.field-0.now ≡ get_or vs k (0, 0) = c.in_ok-cust.ensures.lookup.1 ∙ ap (λ ys. get_or ys k c.in_ok-cust.field-0.now) again ∙ get_or_default vs k _ (0, 0) within in
    let found = found_there vs up id k point within (ap (λ (v : ℕ × ℕ). v.0) (sym here) ∙ eqb-true _ _ (sym c.eq.ensures ∙ c.if-eq.true)) in
    ap (λ (v : ℕ × ℕ). Some v.1) here ∙ ap (option_map (λ (v : ℕ × ℕ). v.1)) (sym (subst (λ ys. find (λ v. v.0 == id) ys ≡ Some (get_or vs k (0, 0))) same found))

pub returns-else-eq-clause-exact : goal.returns-else-eq-clause-exact
returns-else-eq-clause-exact c =
    let vs : List (ℕ × ℕ) = c.deref.result.now in
    let id : ℕ = c.args.id in
    let k : ℕ = c.partition_point-k.result in
    let same : vs ≡ c.args.self.now.serves = c.deref.ensures.value ∙ ap (λ (P : Plan). P.serves) c.self.view_is in
    let up : IsStrictlyIncreasing (map (λ (v : ℕ × ℕ). v.0) vs) = rw c.deref.ensures.value c.self.invariant.customers_rise in
    let point = IsPartitionPoint-from_clause (λ v. ltb v.0 id) vs k c.partition_point-k.ensures.partitioned (keys_fall_apart vs up id k) (λ a r q k. search rules) in
    let again : c.deref-2.result.now ≡ vs = c.deref-2.ensures.value ∙ sym c.deref.ensures.value in
    let within : k < length vs = omega (arith, ap length again, ltb-true _ _ (sym c.in_ok-cust.ensures.lookup.0)) in
    let here : c.in_ok-cust.field-0.now ≡ get_or vs k (0, 0) = c.in_ok-cust.ensures.lookup.1 ∙ ap (λ ys. get_or ys k c.in_ok-cust.field-0.now) again ∙ get_or_default vs k _ (0, 0) within in
    let other = not_found vs up id k point (λ b e. eqb-false _ _ (sym c.eq.ensures ∙ c.if-eq.false) (ap (λ (v : ℕ × ℕ). v.0) here ∙ e)) in
    ap (option_map (λ (v : ℕ × ℕ). v.1)) (sym (subst (λ ys. find (λ v. v.0 == id) ys ≡ None) same other))
