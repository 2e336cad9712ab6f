use Rattle.std.proofs.Common.{◌≡◌, ℕ, ap, sym, subst, length, map, ◌∙◌, arith, ◌∷◌, [], ◌++◌}
use mir.Syntax.{w128}
use mir.Val.{to_z, of_z}
use Rattle.std.specs.Prelude.{filter}
use Rattle.std.specs.List.{range_with_len}
use Rattle.std.specs.List.Sorted.{IsStrictlyIncreasing}
use Rattle.location_terms.specs.Instance.{Instance, IsValid, site_at}
use Rattle.location_terms.specs.Bound.{slack_of}
use Rattle.dual_value.specs.declared.bounds.TheConstants.{MAX_SLACK}
use Rattle.dual_value.proofs.Sizes.{kept}
use Rattle.dual_adjust.specs.Slackness.{is_tight, tight_sites}
use Rattle.dual_adjust.proofs.IdsRise.{tight_sites_rise, list_next, list_same}
use Rattle.dual_adjust.proofs.slackness.tight.Goals as goal
use Rattle.dual_adjust.proofs.slackness.tight.Goals.{then-is_tight+in_ok-push, else-is_tight}

pub loop-site-preserved : goal.loop-site-preserved
loop-site-preserved c =
    let I = c.args.boxed.now.instance in
    let path = c.args.boxed.now.path in
    let d = c.args.duals.now in
    let k = c.loop-site.site in
    let id : ℕ → ℕ = λ i. (site_at I i).id in
    let exact : c.slack.result ≡ slack_of I path d k = rw (c.instance-inst.ensures, c.deref.ensures, c.path.ensures) at c.slack.ensures.exact in
    let bits : to_z w128 (of_z w128 c.slack.result) ≡ slack_of I path d k = kept c.slack.result MAX_SLACK c.slack.ensures.small (omega arith) ∙ exact in
    let is : c.is_tight.result ≡ is_tight I path d k = rw bits at c.is_tight.ensures in
    elim c.if-is_tight.branch [
      | then-is_tight+in_ok-push w ↦
          let here : w.site_id.result ≡ id k = rw c.instance-inst.ensures at w.site_id.ensures in
          ap (λ v. v.items) w.sites-is ∙ w.in_ok-push.ensures.items ∙ ap (λ (n : ℕ). c.loop-site.sites.items ++ n ∷ []) here ∙ list_next id (is_tight I path d) k c.loop-site.sites.items c.loop-site.invariant (sym is ∙ w.if-is_tight.true)
      | else-is_tight w ↦ ap (λ v. v.items) w.sites-is ∙ list_same id (is_tight I path d) k c.loop-site.sites.items c.loop-site.invariant (sym is ∙ w.if-is_tight.false)
    ]

pub returns-clause-rising : goal.returns-clause-rising
returns-clause-rising c =
    let I = c.args.boxed.now.instance in
    let path = c.args.boxed.now.path in
    let d = c.args.duals.now in
    let valid : IsValid I = subst IsValid c.instance-inst.ensures c.sites-site-end.ensures.valid in
    let all : c.loop-site.site ≡ length I.sites = omega (arith, c.sites-site-end.ensures.count, ap (λ (J : Instance). length J.sites) c.instance-inst.ensures) in
    let exact : c.loop-site.sites.items ≡ tight_sites I path d = subst (λ n. c.loop-site.sites.items ≡ map (λ i. (site_at I i).id) (filter (is_tight I path d) (range_with_len 0 n))) all c.loop-site.invariant in
    subst IsStrictlyIncreasing (sym exact) (tight_sites_rise I path d valid)
