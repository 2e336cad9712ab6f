use Rattle.std.proofs.Common.{◌≡◌, ◌∙◌, ap, pos}
use Rattle.location_terms.specs.Instance.{Instance}
use Rattle.location_terms.specs.Bound.{Duals}
use Rattle.dual_value.specs.Zeros.{zeros}
use Rattle.dual_ascent.specs.Ascent.{with_v}
use Rattle.tree_search.proofs.UnservedRay.{ray, ray_is_made}
use Rattle.tree_search.proofs.rays.unserved_ray.Goals as goal

pub returns : goal.returns
returns c =
    let I = c.args.boxed.now.instance in
    let j = c.args.cust in
    let zero : c.in_ok-ray.ray ≡ zeros I 0 = c.in_ok-ray.ensures ∙ ap (λ (J : Instance). zeros J 0) c.instance.ensures in
    let is : c.set_v.new.self ≡ ray I c.args.boxed.now.path j c.requires.customer = c.set_v.ensures ∙ ap (λ (d : Duals). with_v d j (pos 1)) zero in
    record {
      scale = ap (λ (d : Duals). d.q) is;
      made = λ cost old_path old. ray_is_made I c.args.boxed.now.path j c.requires.customer c.requires.unserved cost old_path old c.set_v.new.self is;
    }
