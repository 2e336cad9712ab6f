use Rattle.instance_edits.proofs.Faults.{site-among}
use Rattle.instance_edits.proofs.values.place_of_site.Goals as goal

pub unwrap-requires : goal.unwrap-requires
unwrap-requires c = c.site_at.ensures.known.1 (site-among c.args.inst.now c.args.site c.requires)
