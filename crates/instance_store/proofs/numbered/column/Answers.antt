use Rattle.std.proofs.Common.{◌≡◌, ◌++◌, ◌∷◌, [], ◌∙◌, rules}
use Rattle.instance_store.proofs.ColumnSteps.{column_more}
use Rattle.instance_store.proofs.numbered.column.Goals as goal

pub loop-cust-preserved : goal.loop-cust-preserved
loop-cust-preserved c =
    let pushed : c.push.new.self ≡ c.loop-cust.row ++ c.get.result ∷ [] = search rules in
    pushed ∙ (λ k. c.loop-cust.invariant k ++ c.get.ensures.exact k ∷ []) ∙ column_more c.args.i c.args.custs.now c.loop-cust.cust-index c.cust-item.result c.loop-cust-test.true c.cust-item.is
