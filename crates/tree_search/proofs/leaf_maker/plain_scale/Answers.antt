use Rattle.std.proofs.Common.{sym}
use Rattle.std.proofs.lemmas.Bool.{both_ways}
use Rattle.tree_search.proofs.ZeroBound.{scale_is_one, scale_with_caps}
use Rattle.tree_search.proofs.leaf_maker.plain_scale.Goals as goal

pub returns-then-has_no_caps : goal.returns-then-has_no_caps
returns-then-has_no_caps c = sym (scale_is_one c.args.inst.now (c.has_no_caps.ensures.0 c.if-has_no_caps.true))

pub returns-else-has_no_caps : goal.returns-else-has_no_caps
returns-else-has_no_caps c = sym (scale_with_caps c.args.inst.now (λ none. both_ways _ c.if-has_no_caps.false (c.has_no_caps.ensures.1 none)))
