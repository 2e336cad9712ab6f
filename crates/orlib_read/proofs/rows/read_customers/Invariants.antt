use Rattle.std.proofs.Common.{◌≡◌, ◌-◌}
use Rattle.fixed_cost.specs.Reading.{many_at}
use Rattle.fixed_cost.proofs.ReadSteps.{with_front}
use Rattle.orlib_read.specs.Warehouses.{customer_at}
use Rattle.orlib_read.proofs.rows.read_customers.Given as goal

-- the customers so far and those that are left are all
abbrev pub invariant-loop : goal.invariant-loop
invariant-loop l = with_front l.custs.items (many_at (λ _. customer_at l.sites) l.counter (l.count - l.counter) l.reader) ≡ many_at (λ _. customer_at l.sites) 0 l.count l.fn.reader
