use Rattle.location_terms.specs.Instance.{site_at}
use Rattle.instance_store.specs.Places.{lanes_from}
use Rattle.instance_edits.specs.declared.edit.Inverse.TheVariants.{AddedSite}
use Rattle.instance_edits.specs.Undo.{put_back}
use Rattle.instance_edits.proofs.OrderChanges.{site_gone}
use Rattle.instance_edits.proofs.orders.site_goes.Goals as goal

pub returns : goal.returns
returns c =
    let J = c.args.inst.now in
    let x = site_at J c.args.last in
    c.remove_site.ensures.order (put_back J (AddedSite x.id)) J x.id (lanes_from J x) c.requires.before c.requires.valid c.requires.order
    (site_gone J c.requires.valid c.args.last c.requires.place)
