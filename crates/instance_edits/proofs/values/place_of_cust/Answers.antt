use Rattle.instance_edits.proofs.Faults.{customer-among}
use Rattle.instance_edits.proofs.values.place_of_cust.Goals as goal

pub unwrap-requires : goal.unwrap-requires
unwrap-requires c = c.cust_at.ensures.known.1 (customer-among c.args.inst.now c.args.cust c.requires)
