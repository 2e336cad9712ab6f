use Rattle.std.proofs.Common.{take}
use Rattle.plan_search.specs.Packing.{AreServers}
use Rattle.plan_search.proofs.packing.set_servers.Given as goal

abbrev pub invariant-loop-cust : goal.invariant-loop-cust
invariant-loop-cust l = AreServers l._inst (take l.cust-index l.taken) l.servers
