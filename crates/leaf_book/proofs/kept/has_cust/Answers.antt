use Rattle.std.proofs.Common.{◌∙◌}
use Rattle.location_terms.specs.Instance.{customer_ids}
use Rattle.leaf_repair.proofs.Listed.{found_is_listed}
use Rattle.leaf_book.proofs.kept.has_cust.Goals as goal

pub returns : goal.returns
returns c = c.is_some.ensures ∙ found_is_listed (customer_ids c.args.inst.now) c.args.cust _ c.cust_at.ensures.known
