use Rattle.std.proofs.Common.{sym, ap, ◌∙◌}
use Rattle.instance_store.specs.Changes.{site_row}
use Rattle.instance_edits.specs.declared.edit.Inverse.TheVariants.{DroppedSite}
use Rattle.instance_edits.proofs.Restored.{place_among-site, site_named-at}
use Rattle.instance_edits.proofs.comings.drop_site.Goals as goal

pub returns-clause-inverse : goal.returns-clause-inverse
returns-clause-inverse c =
    let I = c.args.inst.now in
    let at = c.place_of_site-place.ensures in
    let place = place_among-site I c.requires.valid c.args.site c.place_of_site-place.result at.within at.id in
    let named = site_named-at I c.requires.valid c.args.site c.place_of_site-place.result at.within at.id in
    let row = c.remove_site-row.ensures.row ∙ ap (site_row I) (sym named) in
    let status = c.remove_site-row.ensures.status ∙ ap (λ x. x.status) (sym named) in
    λ k. DroppedSite (sym place k) (row k) (status k)
