use Rattle.std.proofs.Common.{get_or}
use Rattle.std.proofs.lemmas.List.{get_or_default}
use Rattle.plan_search.proofs.Served.{server_set, all_set}
use Rattle.plan_search.proofs.packing.set_servers.Goals as goal

pub loop-cust-preserved : goal.loop-cust-preserved
loop-cust-preserved c =
    let taken = c.args.taken.now in
    let k = c.loop-cust.cust-index in
    let t = get_or taken k (0, 0) in
    server_set c.args._inst.now taken c.requires.pairs k t c.loop-cust-test.true (get_or_default taken k (0, 0) t c.loop-cust-test.true) c.loop-cust.servers c.loop-cust.invariant

pub returns-clause-exact : goal.returns-clause-exact
returns-clause-exact c = all_set c.args._inst.now c.args.taken.now c.loop-cust.cust-index c.loop-cust.servers c.loop-cust-test.false c.loop-cust.invariant
