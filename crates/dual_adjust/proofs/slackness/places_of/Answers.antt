use Rattle.std.proofs.Common.{◌≡◌, ◌≢◌, ℕ, ◌+◌, ◌<◌, ap, sym, subst, ◌∙◌, take, get_or, length}
use Rattle.std.proofs.lemmas.Bool.{false≢true}
use Rattle.std.proofs.lemmas.List.{get_or_default}
use Rattle.location_terms.specs.Instance.{site_at}
use Rattle.dual_adjust.specs.Paid.{ArePlacesOf}
use Rattle.dual_adjust.proofs.PlacesOf.{has_id, no_place, next_place}
use Rattle.dual_adjust.proofs.slackness.places_of.Goals as goal
use Rattle.dual_adjust.proofs.slackness.places_of.Goals.{in-Some+in_ok-push, in_default}

pub loop-site-preserved : goal.loop-site-preserved
loop-site-preserved c =
    let I = c.args.inst.now in
    let ids = c.args.sites.now in
    let k = c.loop-site.site-index in
    let next : c.site-item.result ≡ get_or ids k 0 = c.site-item.is ∙ get_or_default ids k c.site-item.result 0 c.loop-site-test.true in
    elim c.match-site_at.branch [
      | in-Some+in_ok-push w ↦
          let after = next_place I c.sites.ensures.valid ids k c.loop-site-test.true c.loop-site.places.items c.loop-site.invariant c.requires w.in-Some.place w.in-Some.ensures.found.0 (w.in-Some.ensures.found.1 ∙ next) in
          subst (ArePlacesOf I (take (k + 1) ids)) (sym (ap (λ v. v.items) w.places-is ∙ w.in_ok-push.ensures.items)) after
      | in_default w ↦
          let unknown : (i : ℕ) → i < length I.sites → (site_at I i).id ≢ get_or ids k 0 = λ i b is. false≢true (w.in_default.ensures.known.1 (has_id I i c.site-item.result b (is ∙ sym next))) in
          subst (ArePlacesOf I (take (k + 1) ids)) (sym (ap (λ v. v.items) w.places-is)) (no_place I c.sites.ensures.valid ids k c.loop-site-test.true c.loop-site.places.items c.loop-site.invariant unknown)
    ]
