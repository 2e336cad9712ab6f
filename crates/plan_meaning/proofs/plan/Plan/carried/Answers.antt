use Rattle.std.proofs.Common.{◌≡◌, List, ℕ, map, ap, sym, ◌∙◌}
use Rattle.location_terms.specs.Carried.{carried_sites}
use Rattle.plan_meaning.proofs.Carrying.{carried_is_plan, sites_up}
use Rattle.plan_meaning.proofs.plan.Plan.carried.Goals as goal

pub carried_serves-requires-clause-rising : goal.carried_serves-requires-clause-rising
carried_serves-requires-clause-rising c =
    sites_up c.args.inst.now c.args.self.now _ c.in_ok-opened.ensures.valid (ap (λ (vs : List (ℕ × ℕ)). map (λ v. v.0) vs) c.deref.ensures.value ∙ c.in_ok-opened.ensures.sites)

pub invariant_of-result : goal.invariant_of-result
invariant_of-result c =
    let seen : map (λ (v : ℕ × ℕ). v.0) c.deref.result.now ≡ carried_sites c.args.inst.now c.args.self.now = ap (λ (vs : List (ℕ × ℕ)). map (λ v. v.0) vs) c.deref.ensures.value ∙ c.in_ok-opened.ensures.sites in
    let same : c.in_ok-sites.sites.items ≡ map (λ (v : ℕ × ℕ). v.0) c.deref.result.now = c.in_ok-sites.ensures ∙ ap (λ (vs : List (ℕ × ℕ)). map (λ v. v.0) vs) (c.deref-2.ensures.value ∙ sym c.deref.ensures.value) in
    carried_is_plan c.args.inst.now c.args.self.now c.in_ok-sites.sites.items _ c.in_ok-serves.serves.items c.in_ok-opened.ensures.valid seen same c.in_ok-serves.ensures
