use Rattle.std.proofs.Common.{◌≡◌, ◌*◌, ℕ, ℤ, pos, ap, sym, subst, ◌∙◌, ◌+ℤ◌, ◌-ℤ◌}
use Rattle.std.proofs.lemmas.Bool.{false≢true}
use Rattle.location_terms.specs.Instance.{Instance, site_at}
use Rattle.location_terms.specs.Bound.{Duals, slack_of}
use Rattle.leaf_book.specs.declared.change.Change.{Change}
use Rattle.leaf_book.specs.OneSite.{IsFormerSlack}
use Rattle.leaf_book.proofs.Behind.{within, fixed_behind, lane_behind, unserved_behind, knows_customer}
use Rattle.leaf_book.proofs.one_site.slack_behind.Goals as goal

pub returns-in-Fixed-clause-exact : goal.returns-in-Fixed-clause-exact
returns-in-Fixed-clause-exact g c =
    let I : Instance = c.args.inst.now in
    let d : Duals = g.D.DualsByPlace.numbers c.args.duals.now in
    let was = subst (λ (change : Change). IsFormerSlack change I c.args.path.now d c.args.site c.args.old) c.in-Fixed.is c.requires.old in
    fixed_behind I c.args.path.now d c.args.site c.args.old c.requires.small c.requires.site c.in-Fixed.site c.in-Fixed.former was c.scaled.result c.scaled-in-Fixed.result
    (c.scaled.ensures.exact ∙ (λ k. pos (c.q.ensures k * c.fixed-now.ensures.exact k))) c.scaled.ensures.small
    (c.scaled-in-Fixed.ensures.exact ∙ ap (λ q. pos (q * c.in-Fixed.former)) c.q-in-Fixed.ensures) c.scaled-in-Fixed.ensures.small

pub returns-in-Fixed-clause-small : goal.returns-in-Fixed-clause-small
returns-in-Fixed-clause-small g c = within c.args.inst.now c.args.path.now (g.D.DualsByPlace.numbers c.args.duals.now) c.args.site c.args.old c.requires.small c.sites-valid.ensures.valid c.requires.fit c.requires.site _ (returns-in-Fixed-clause-exact g c)

pub returns-in-Some-clause-exact : goal.returns-in-Some-clause-exact
returns-in-Some-clause-exact g c =
    let I : Instance = c.args.inst.now in
    let d : Duals = g.D.DualsByPlace.numbers c.args.duals.now in
    let was = subst (λ (change : Change). IsFormerSlack change I c.args.path.now d c.args.site c.args.old) c.in-Lane.is c.requires.old in
    lane_behind I c.args.path.now d c.args.site c.args.old c.requires.small c.in-Lane.site c.in-Lane.cust c.in-Lane.former was c.sites-valid.ensures.valid c.in-Some.cust c.in-Some.ensures.found.0 c.in-Some.ensures.found.1 c.change_paid.result c.change_paid.ensures.exact c.change_paid.ensures.small

pub returns-in-Some-clause-small : goal.returns-in-Some-clause-small
returns-in-Some-clause-small g c = within c.args.inst.now c.args.path.now (g.D.DualsByPlace.numbers c.args.duals.now) c.args.site c.args.old c.requires.small c.sites-valid.ensures.valid c.requires.fit c.requires.site _ (returns-in-Some-clause-exact g c)

pub returns-in-None-clause-exact : goal.returns-in-None-clause-exact
returns-in-None-clause-exact g c =
    let I : Instance = c.args.inst.now in
    let d : Duals = g.D.DualsByPlace.numbers c.args.duals.now in
    let was = subst (λ (change : Change). IsFormerSlack change I c.args.path.now d c.args.site c.args.old) c.in-Lane.is c.requires.old in
    unserved_behind I c.args.path.now d c.args.site c.args.old c.requires.small c.in-Lane.site c.in-Lane.cust c.in-Lane.former was (λ j b same. false≢true (c.in-None.ensures.known.1 (knows_customer I j c.in-Lane.cust b (sym same))))
