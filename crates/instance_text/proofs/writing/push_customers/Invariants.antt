use Rattle.std.proofs.Common.{◌≡◌, ◌++◌, flat_map, take}
use Rattle.instance_text.specs.Behind.{line}
use Rattle.instance_text.specs.OwnText.{customer_words}
use Rattle.instance_text.proofs.writing.push_customers.Given as goal

abbrev pub invariant-loop-j : goal.invariant-loop-j
invariant-loop-j l = l.text.items ≡ l.fn.text.items ++ flat_map (λ c. line (customer_words c)) (take l.j l.inst.customers)
