use Rattle.std.proofs.Common.{◌≡◌, ◌-◌}
use Rattle.fixed_cost.specs.Reading.{many_from}
use Rattle.fixed_cost.proofs.ReadSteps.{with_front}
use Rattle.instance_text.specs.Own.{customer_line_at}
use Rattle.instance_text.proofs.reading.read_customers.Given as goal

-- the customers so far and those that are left are all
abbrev pub invariant-loop : goal.invariant-loop
invariant-loop l =
    with_front l.custs.items (many_from (λ _ c. c.id) (customer_line_at l.next) l.last (l.count - l.counter) l.reader)
    ≡ many_from (λ _ c. c.id) (customer_line_at l.next) 0 l.count l.fn.reader
