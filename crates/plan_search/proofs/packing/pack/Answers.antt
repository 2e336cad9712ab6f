use Rattle.std.proofs.Common.{◌≡◌, ℕ, Bool, List, Some, option_map, sym, ap, subst, ◌∙◌}
use Rattle.location_terms.specs.Instance.{Instance, IsValid}
use Rattle.location_terms.specs.Plan.{IsPlan}
use Rattle.plan_search.specs.Packed.{all_taken, plan_of}
use Rattle.plan_search.specs.Flags.{flagged}
use Rattle.plan_search.specs.Packing.{ArePairs}
use Rattle.plan_search.proofs.Outcome.{taken_pairs, made_plan}
use Rattle.plan_search.proofs.packing.pack.Goals as goal

pub plan_of-requires-clause-pairs : goal.plan_of-requires-clause-pairs
plan_of-requires-clause-pairs c =
    let I = c.args.boxed.now.instance in
    let path = c.args.boxed.now.path in
    let valid : IsValid I = subst IsValid c.instance-inst.ensures c.is_count_within.ensures.valid in
    let is : Some c.in-Some.taken.items ≡ all_taken I path (flagged c.in_ok-flags.flags.items) =
    sym (ap (option_map (λ v. v.items)) c.in-Some.is) ∙ c.in_ok-take_lanes.ensures ∙ ap (λ flags. all_taken I path (flagged flags)) c.deref-2.ensures.value in
    subst (λ (p : Instance × List (ℕ × ℕ)). ArePairs p.0 p.1) (λ n. (sym c.instance-inst.ensures n, sym c.deref-in-Some-2.ensures.value n))
    (taken_pairs I path c.args.hint.now (flagged c.in_ok-flags.flags.items) c.in_ok-flags.ensures.exact valid c.in-Some.taken.items is)

pub plan_of-requires-clause-plan : goal.plan_of-requires-clause-plan
plan_of-requires-clause-plan c =
    let I = c.args.boxed.now.instance in
    let path = c.args.boxed.now.path in
    let valid : IsValid I = subst IsValid c.instance-inst.ensures c.is_count_within.ensures.valid in
    let is : Some c.in-Some.taken.items ≡ all_taken I path (flagged c.in_ok-flags.flags.items) =
    sym (ap (option_map (λ v. v.items)) c.in-Some.is) ∙ c.in_ok-take_lanes.ensures ∙ ap (λ flags. all_taken I path (flagged flags)) c.deref-2.ensures.value in
    subst (λ (p : Instance × (List Bool × List (ℕ × ℕ))). IsPlan (plan_of p.0 (flagged p.1.0) p.1.1))
    (λ n. (sym c.instance-inst.ensures n, (sym c.deref-in-Some.ensures.value n, sym c.deref-in-Some-2.ensures.value n)))
    (made_plan I path c.args.hint.now (flagged c.in_ok-flags.flags.items) c.in_ok-flags.ensures.exact valid c.in-Some.taken.items is)
