use Rattle.std.proofs.Common.{◌∙◌}
use Rattle.location_terms.specs.Instance.{site_ids}
use Rattle.leaf_repair.proofs.Listed.{found_is_listed}
use Rattle.leaf_book.proofs.kept.has_site.Goals as goal

pub returns : goal.returns
returns c = c.is_some.ensures ∙ found_is_listed (site_ids c.args.inst.now) c.args.site _ c.site_at.ensures.known
