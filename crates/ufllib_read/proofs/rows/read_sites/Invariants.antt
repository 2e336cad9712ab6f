use Rattle.std.proofs.Common.{◌≡◌, ◌+◌, ◌-◌}
use Rattle.fixed_cost.specs.Reading.{many_at}
use Rattle.fixed_cost.proofs.ReadSteps.{with_front}
use Rattle.ufllib_read.specs.Ufl.{site_lanes_at}
use Rattle.ufllib_read.proofs.rows.read_sites.Given as goal

-- the facilities so far and those that are left are all
abbrev pub invariant-loop-number : goal.invariant-loop-number
invariant-loop-number l = with_front l.rows.items (many_at (site_lanes_at l.custs) l.number (l.sites + 1 - l.number) l.reader) ≡ many_at (site_lanes_at l.custs) 1 l.sites l.fn.reader
