use mir.Syntax.{w128}
use Rattle.std.proofs.Common.{◌∙◌, ap, subst, None, ℤ}
use Rattle.std.proofs.lemmas.Int.{to_z-of_z}
use Rattle.location_terms.specs.Instance.{Instance}
use Rattle.location_terms.specs.Box.{Path}
use Rattle.location_terms.specs.Bound.{Duals, bound_of}
use Rattle.location_terms.specs.Fit.{BoundCloses}
use Rattle.tree_search.specs.Rays.{IsRayIn}
use Rattle.tree_search.proofs.JudgedRay.{judged_is_made}
use Rattle.tree_search.proofs.rays.total_ray.Goals as goal

pub returns-then-closes : goal.returns-then-closes
returns-then-closes c =
    let I = c.args.boxed.now.instance in
    let path = c.args.boxed.now.path in
    let at = ap (λ (K : Instance). bound_of K c.deref.result.now c.from_lists-ray.result) c.instance-inst.ensures ∙ ap (λ (p : Path). bound_of I p c.from_lists-ray.result) (c.deref.ensures ∙ c.path.ensures) ∙ ap (λ (d : Duals). bound_of I path d) c.from_lists-ray.ensures in
    let ray : IsRayIn I path c.from_lists-ray.result = record {
      scale = ap (λ (d : Duals). d.q) c.from_lists-ray.ensures;
      made = λ cost old_path old. judged_is_made I c.instance-inst.result.now c.instance-inst.ensures path c.in_ok-demands.field-0.items c.in_ok-cap_prices.field-0.items
          c.in_ok-demands.ensures.long c.in_ok-demands.ensures.small c.in_ok-cap_prices.ensures.long c.in_ok-cap_prices.ensures.small c.in_ok-cap_prices.ensures.unpriced
          c.bound.result (c.bound.ensures.exact ∙ at) (subst (λ (x : ℤ). BoundCloses x 0 None) (to_z-of_z w128 c.bound.result (record { sfits = c.bound.type_inv })) (c.closes.ensures.0 c.if-closes.true)) c.from_lists-ray.result c.from_lists-ray.ensures cost old_path old;
    } in
    record { ray = ray }
