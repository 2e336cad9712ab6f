use Rattle.std.proofs.Common.{◌≡◌, ◌++◌, drop}
use Rattle.std.specs.Prelude.{zip}
use Rattle.location_terms.specs.Instance.{customer_ids}
use Rattle.certificate_lines.proofs.plan_lines.serve_list.Given as goal

abbrev pub invariant-loop-j : goal.invariant-loop-j
invariant-loop-j l = l.serves.items ++ zip (drop l.j (customer_ids l.inst)) (drop l.j l.servers.items) ≡ zip (customer_ids l.inst) l.servers.items
