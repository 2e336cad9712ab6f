use Rattle.std.proofs.Common.{◌≡◌, ◌-◌}
use Rattle.fixed_cost.specs.Reading.{many_from}
use Rattle.fixed_cost.proofs.ReadSteps.{with_front}
use Rattle.instance_text.specs.Own.{site_line_at}
use Rattle.instance_text.proofs.reading.read_sites.Given as goal

-- the sites so far and those that are left are all
abbrev pub invariant-loop : goal.invariant-loop
invariant-loop l =
    with_front l.sites.items (many_from (λ _ s. s.0.id) (site_line_at l.statuses l.custs l.next) l.last (l.count - l.counter) l.reader)
    ≡ many_from (λ _ s. s.0.id) (site_line_at l.statuses l.custs l.next) 0 l.count l.fn.reader
