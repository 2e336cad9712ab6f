use Rattle.std.proofs.Common.{◌≡◌, ◌-◌}
use Rattle.fixed_cost.specs.Reading.{many_at}
use Rattle.fixed_cost.proofs.ReadSteps.{with_front}
use Rattle.orlib_read.specs.Warehouses.{warehouse_at}
use Rattle.orlib_read.proofs.rows.read_warehouses.Given as goal

-- the warehouses so far and those that are left are all
abbrev pub invariant-loop : goal.invariant-loop
invariant-loop l = with_front l.sites.items (many_at (λ _. warehouse_at l.capacities) l.counter (l.count - l.counter) l.reader) ≡ many_at (λ _. warehouse_at l.capacities) 0 l.count l.fn.reader
