use Rattle.std.proofs.Common.{ℕ, ◌<◌, ◌++◌, ◌∷◌, [], ◌∙◌, sym, ap, List, arith, length, take}
use Rattle.std.proofs.lemmas.List.{take_more}
use Rattle.location_terms.specs.Instance.{site_ids}
use Rattle.location_terms.proofs.Places.{length-site_ids, slice_index-site_ids}
use Rattle.leaf_repair.proofs.places.instance_sites.Goals as goal

pub loop-site-preserved : goal.loop-site-preserved
loop-site-preserved c =
    let I = c.args.inst.now in
    let known : c.loop-site.site < length (site_ids I) = omega (arith, length-site_ids I) in
    c.in_ok-push.ensures.items
    ∙ ap (λ (xs : List ℕ). xs ++ c.number.result ∷ []) c.loop-site.invariant
    ∙ ap (λ (x : ℕ). take c.loop-site.site (site_ids I) ++ x ∷ []) (c.number.ensures ∙ c.site_id.ensures ∙ sym (slice_index-site_ids I c.loop-site.site (omega arith)))
    ∙ sym (take_more (site_ids I) c.loop-site.site 0 known)
