use Rattle.std.proofs.Common.{ℕ, ◌<◌, ◌++◌, ◌∷◌, [], ◌∙◌, sym, ap, List, Option, arith, length, take}
use Rattle.std.proofs.lemmas.List.{take_more, take_all, map-append}
use Rattle.location_terms.specs.Instance.{site_ids}
use Rattle.location_terms.proofs.Places.{length-site_ids, slice_index-site_ids}
use Rattle.instance_store.specs.Places.{place_of}
use Rattle.leaf_repair.specs.Placed.{places_of}
use Rattle.leaf_book.proofs.ids.place_sites.Goals as goal

pub loop-site-preserved : goal.loop-site-preserved
loop-site-preserved c =
    let I = c.args.inst.now in
    let ids = c.args.ids.now in
    let k = c.loop-site.site in
    let known : k < length (site_ids I) = omega (arith, length-site_ids I) in
    let f : ℕ → Option ℕ = λ x. place_of x ids in
    record {
      places =
          c.push_reserved.ensures.items
          ∙ ap (λ (xs : List (Option ℕ)). xs ++ c.place_of_site.result ∷ []) c.loop-site.invariant.places
          ∙ ap (λ (o : Option ℕ). places_of ids (take k (site_ids I)) ++ o ∷ []) (c.place_of_site.ensures ∙ ap f (c.site_id.ensures ∙ sym (slice_index-site_ids I k (omega arith))))
          ∙ sym (ap (places_of ids) (take_more (site_ids I) k 0 known) ∙ map-append f (take k (site_ids I)) (_ ∷ []));
      len = omega (arith, c.push_reserved.ensures.len, c.loop-site.invariant.len);
      room = c.push_reserved.ensures.capacity ∙ c.loop-site.invariant.room;
    }

pub returns-clause-places : goal.returns-clause-places
returns-clause-places c =
    let I = c.args.inst.now in
    c.loop-site.invariant.places ∙ ap (places_of c.args.ids.now) (take_all c.loop-site.site (site_ids I) (omega (arith, length-site_ids I)))
