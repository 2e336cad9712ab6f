use Rattle.std.proofs.Common.{◌≡◌, ℕ, ◌<◌, ap, sym, subst, ◌∙◌, arith, length, ◌∷◌, [], ◌++◌}
use mir.Syntax.{w128}
use mir.Val.{to_z, of_z}
use Rattle.std.specs.Prelude.{slice_index_or, pos}
use Rattle.location_terms.specs.Instance.{Instance, IsValid, site_at}
use Rattle.location_terms.specs.Bound.{slack_of}
use Rattle.dual_value.specs.Slacks.{AreSlacks}
use Rattle.dual_ascent.proofs.Offers.{slack_is}
use Rattle.dual_adjust.specs.Slackness.{is_tight}
use Rattle.dual_adjust.proofs.IdsRise.{list_next, list_same}
use Rattle.dual_adjust.proofs.trials.tight.Goals as goal
use Rattle.dual_adjust.proofs.trials.tight.Goals.{then-is_tight+in_ok-push, else-is_tight}

pub loop-site-preserved : goal.loop-site-preserved
loop-site-preserved c =
    let I = c.args.boxed.now.instance in
    let path = c.args.boxed.now.path in
    let d = c.args.ascended.now.duals in
    let k = c.loop-site.site in
    let id : ℕ → ℕ = λ i. (site_at I i).id in
    let valid : IsValid I = subst IsValid c.instance-inst.ensures c.sites-site-end.ensures.valid in
    let within : k < length I.sites = omega (arith, c.loop-site-test.true, c.sites-site-end.ensures.count, ap (λ (J : Instance). length J.sites) c.instance-inst.ensures) in
    let slacks : AreSlacks I path d c.slacks-slacks.result.now = subst (AreSlacks I path d) (sym c.slacks-slacks.ensures) c.requires.slacks in
    let bits : to_z w128 (of_z w128 (slice_index_or c.slacks-slacks.result.now k (pos 0))) ≡ slack_of I path d k = slack_is I path d valid c.requires.tame.fit k within c.slacks-slacks.result.now slacks in
    let is : c.is_tight.result ≡ is_tight I path d k = rw bits at c.is_tight.ensures in
    elim c.if-is_tight.branch [
      | then-is_tight+in_ok-push w ↦
          let here : w.site_id.result ≡ id k = rw c.instance-inst.ensures at w.site_id.ensures in
          ap (λ v. v.items) w.sites-is ∙ w.in_ok-push.ensures.items ∙ ap (λ (n : ℕ). c.loop-site.sites.items ++ n ∷ []) here ∙ list_next id (is_tight I path d) k c.loop-site.sites.items c.loop-site.invariant (sym is ∙ w.if-is_tight.true)
      | else-is_tight w ↦ ap (λ v. v.items) w.sites-is ∙ list_same id (is_tight I path d) k c.loop-site.sites.items c.loop-site.invariant (sym is ∙ w.if-is_tight.false)
    ]
