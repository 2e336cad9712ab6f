use Rattle.std.proofs.Common.{◌≡◌, ℕ, ◌∙◌, ap, pos, negsuc, arith}
use Rattle.location_terms.specs.Instance.{Instance}
use Rattle.location_terms.specs.Bound.{Duals}
use Rattle.tree_search.specs.Rays.{count_ray}
use Rattle.tree_search.proofs.CountRay.{opened_ray, possible_ray}
use Rattle.tree_search.proofs.rays.count_ray.Goals as goal

pub returns-then-opened_count-hi-clause-ray : goal.returns-then-opened_count-hi-clause-ray
returns-then-opened_count-hi-clause-ray c =
    let hi : c.count-lo.result.1 ≡ c.args.boxed.now.instance.hi = ap (λ (p : ℕ × ℕ). p.1) c.count-lo.ensures ∙ ap (λ (J : Instance). J.hi) c.instance.ensures in
    let is = c.in_ok-priced_zeros.ensures ∙ ap (λ (J : Instance). count_ray J (pos 1)) c.instance-then-opened_count-hi.ensures in
    record {
      scale = ap (λ (d : Duals). d.q) is;
      made = λ cost old_path old. opened_ray c.args.boxed.now.instance c.args.boxed.now.path (omega (arith, hi, c.opened_count.ensures.exact, c.if-opened_count-hi.true)) cost old_path old c.in_ok-priced_zeros.field-0 is;
    }

pub returns-then-possible_count-lo-clause-ray : goal.returns-then-possible_count-lo-clause-ray
returns-then-possible_count-lo-clause-ray c =
    let lo : c.count-lo.result.0 ≡ c.args.boxed.now.instance.lo = ap (λ (p : ℕ × ℕ). p.0) c.count-lo.ensures ∙ ap (λ (J : Instance). J.lo) c.instance.ensures in
    let is = c.in_ok-priced_zeros-2.ensures ∙ ap (λ (J : Instance). count_ray J (negsuc 0)) c.instance-then-possible_count-lo.ensures in
    record {
      scale = ap (λ (d : Duals). d.q) is;
      made = λ cost old_path old. possible_ray c.args.boxed.now.instance c.args.boxed.now.path (omega (arith, lo, c.possible_count.ensures, c.if-possible_count-lo.true)) cost old_path old c.in_ok-priced_zeros-2.field-0 is;
    }
