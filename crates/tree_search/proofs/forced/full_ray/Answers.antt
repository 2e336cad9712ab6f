use Rattle.std.proofs.Common.{◌≡◌, ℕ, List, ◌∙◌, ap, subst, false}
use Rattle.std.specs.Prelude.{slice_index}
use Rattle.location_terms.specs.Instance.{IsValid, site_at}
use Rattle.location_terms.specs.Box.{holds_demand}
use Rattle.location_terms.specs.Bound.{Duals}
use Rattle.tree_search.proofs.FullRay.{full_is_made}
use Rattle.tree_search.proofs.forced.full_ray.Goals as goal

pub returns-clause-ray : goal.returns-clause-ray
returns-clause-ray c =
    let I = c.args.boxed.now.instance in
    let path = c.args.boxed.now.path in
    let k = c.in-Some.site in
    let load = ap (λ (xs : List ℕ). slice_index xs k) c.deref.ensures.value ∙ c.in_ok-loads.ensures.exact k c.in-Some.ensures.within in
    record {
      scale = ap (λ (d : Duals). d.q) c.in_ok-ray_of-in-Some.ensures;
      made = λ cost old_path old. full_is_made I path (subst IsValid c.instance-2.ensures c.custs-custs.ensures.valid) k c.in-Some.ensures.within c.in-Some.ensures.opened
          (subst (λ (n : ℕ). holds_demand (site_at I k).cap n ≡ false) load c.in-Some.ensures.over) cost old_path old c.in_ok-ray_of-in-Some.field-0 c.in_ok-ray_of-in-Some.ensures;
    }
