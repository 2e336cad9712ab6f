use Rattle.instance_edits.specs.declared.edit.EditFault.TheVariants.{NoSite}
use Rattle.instance_edits.proofs.Faults.{lacks_site-is}
use Rattle.instance_edits.proofs.refusals.no_site.Goals as goal

pub returns : goal.returns
returns c = λ k. (lacks_site-is c.args.inst.now c.args.site _ _ c.site_at.ensures.known c.is_none.ensures k, NoSite)
