use Rattle.std.proofs.Common.{◌≡◌, ◌∙◌, sym}
use Rattle.std.specs.Prelude.{Some}
use Rattle.std.proofs.lemmas.Bool.{OnFalse_from, and_left, and_right, false≢true}
use Rattle.location_terms.specs.Box.{is_called_for, is_closed}
use Rattle.location_terms.specs.Instance.{site_at}
use Rattle.dual_value.specs.Lanes.{named_site}
use Rattle.dual_value.proofs.Torn.{whole_at, knows_site}
use Rattle.dual_value.proofs.settled.is_torn_by.Goals as goal

pub returns-in-None-clause-whole : goal.returns-in-None-clause-whole
returns-in-None-clause-whole c = λ i b e.
    let named : Some c.in-Some.site ≡ Some (site_at c.args.inst.now i).id = sym c.in-Some.is ∙ c.named_site.ensures ∙ e in
    let same : c.in-Some.site ≡ (site_at c.args.inst.now i).id = cc in
    absurd (false≢true (c.in-None.ensures.known.1 (knows_site c.args.inst.now i c.in-Some.site b same)))

pub returns-then-is_called_for-clause-whole : goal.returns-then-is_called_for-clause-whole
returns-then-is_called_for-clause-whole c =
    let I = c.args.inst.now in
    let k = c.in-Some-site_at.i in
    let names : named_site c.args.step.now ≡ Some c.in-Some.site = cc in
    OnFalse_from c.is_closed.result _ (λ f. whole_at I c.args.path.now c.args.step.now c.in-Some.site k c.requires names c.in-Some-site_at.ensures.found
    (and_right (is_called_for c.args.path.now (site_at I k)) (is_closed c.args.path.now (site_at I k)) (sym c.is_closed.ensures ∙ f)))

pub returns-else-is_called_for-clause-whole : goal.returns-else-is_called_for-clause-whole
returns-else-is_called_for-clause-whole c =
    let I = c.args.inst.now in
    let k = c.in-Some-site_at.i in
    let names : named_site c.args.step.now ≡ Some c.in-Some.site = cc in
    OnFalse_from c.is_called_for.result _ (λ f. whole_at I c.args.path.now c.args.step.now c.in-Some.site k c.requires names c.in-Some-site_at.ensures.found
    (and_left (is_called_for c.args.path.now (site_at I k)) (is_closed c.args.path.now (site_at I k)) (sym c.is_called_for.ensures ∙ f)))
