use Rattle.std.proofs.Common.{◌≡◌, ℕ, ◌<◌, ◌≤◌, List, length, get_or, ltb, Some, ap, sym, ◌∙◌, arith, rules}
use Rattle.std.proofs.lemmas.Bool.{eqb-true, eqb-false, ltb-true, ltb-false}
use Rattle.std.proofs.lemmas.List.{get_or_default}
use Rattle.std.proofs.lemmas.List.Sorted.{IsPartitionPoint-from_clause}
use Rattle.plan_meaning.proofs.Carrying.{keys_fall_apart, found_there, not_found}
use Rattle.plan_meaning.proofs.carried.open_site.Goals as goal

pub returns-in_err-found : goal.returns-in_err-found
returns-in_err-found c =
    let vs : List (ℕ × ℕ) = c.args.opened.now in
    let k : ℕ = c.partition_point-k.result in
    let point = IsPartitionPoint-from_clause (λ v. ltb v.0 c.args.id) vs k c.partition_point-k.ensures.partitioned (keys_fall_apart vs c.requires.rising c.args.id k) (λ a r q k. search rules) in
    let past : length vs ≤ k = ltb-false _ _ (sym c.in_err-found.ensures.lookup.0) in
    c.from_residual.ensures ∙ sym (not_found vs c.requires.rising c.args.id k point (λ b _. omega (arith, b, past)))

pub returns-then-eq : goal.returns-then-eq
returns-then-eq c =
    let vs : List (ℕ × ℕ) = c.args.opened.now in
    let k : ℕ = c.partition_point-k.result in
    let point = IsPartitionPoint-from_clause (λ v. ltb v.0 c.args.id) vs k c.partition_point-k.ensures.partitioned (keys_fall_apart vs c.requires.rising c.args.id k) (λ a r q k. search rules) in
    let within : k < length vs = ltb-true _ _ (sym c.in_ok-found.ensures.lookup.0) in
    let here : c.in_ok-found.field-0.now ≡ get_or vs k (0, 0) = c.in_ok-found.ensures.lookup.1 ∙ get_or_default vs k _ (0, 0) within in
    ap (λ (v : ℕ × ℕ). Some v) here ∙ sym (found_there vs c.requires.rising c.args.id k point within (ap (λ (v : ℕ × ℕ). v.0) (sym here) ∙ eqb-true _ _ (sym c.eq.ensures ∙ c.if-eq.true)))

pub returns-else-eq : goal.returns-else-eq
returns-else-eq c =
    let vs : List (ℕ × ℕ) = c.args.opened.now in
    let k : ℕ = c.partition_point-k.result in
    let point = IsPartitionPoint-from_clause (λ v. ltb v.0 c.args.id) vs k c.partition_point-k.ensures.partitioned (keys_fall_apart vs c.requires.rising c.args.id k) (λ a r q k. search rules) in
    let within : k < length vs = ltb-true _ _ (sym c.in_ok-found.ensures.lookup.0) in
    let here : c.in_ok-found.field-0.now ≡ get_or vs k (0, 0) = c.in_ok-found.ensures.lookup.1 ∙ get_or_default vs k _ (0, 0) within in
    sym (not_found vs c.requires.rising c.args.id k point (λ b e. eqb-false _ _ (sym c.eq.ensures ∙ c.if-eq.false) (ap (λ (v : ℕ × ℕ). v.0) here ∙ e)))
