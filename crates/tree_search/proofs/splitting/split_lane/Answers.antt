use Rattle.tree_search.proofs.OpenLanes.{uncapped_settled}
use Rattle.tree_search.proofs.splitting.split_lane.Goals as goal

pub returns-then-has_no_caps-clause-none : goal.returns-then-has_no_caps-clause-none
returns-then-has_no_caps-clause-none c =
    uncapped_settled c.args.boxed.now.instance c.instance.result.now c.args.boxed.now.path c.instance.ensures (c.has_no_caps.ensures.0 c.if-has_no_caps.true) c.requires.none_free
