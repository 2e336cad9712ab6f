use Rattle.std.proofs.Common.{◌∙◌, arith}
use Rattle.std.proofs.lemmas.List.{take_all}
use Rattle.instance_store.specs.Numbered.{columns_of}
use Rattle.instance_store.proofs.ColumnSteps.{columns_more, length-columns_of}
use Rattle.instance_store.proofs.numbered.with_columns.Goals as goal

pub loop-i-preserved : goal.loop-i-preserved
loop-i-preserved c = rw (c.in_ok-push.ensures.items, c.loop-i.invariant) (columns_more c.args.sites.items c.args.custs.now c.loop-i.i _ _ (omega arith) c.index-site.ensures c.in_ok-lanes.ensures)

pub returns : goal.returns
returns c = c.loop-i.invariant ∙ take_all c.loop-i.i (columns_of c.args.sites.items c.args.custs.now) (omega (arith, length-columns_of c.args.sites.items c.args.custs.now))
