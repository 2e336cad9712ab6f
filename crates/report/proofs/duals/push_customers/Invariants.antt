use Rattle.std.proofs.Common.{◌≡◌, ◌++◌, flat_map}
use Rattle.std.specs.List.{range_with_len}
use Rattle.report.specs.DualsText.{customer_line}
use Rattle.report.proofs.duals.push_customers.Given as goal

abbrev pub invariant-loop-cust : goal.invariant-loop-cust
invariant-loop-cust l = l.text.items ≡ l.fn.text.items ++ flat_map (customer_line l.inst l.duals) (range_with_len 0 l.cust)
