use Rattle.std.proofs.Common.{◌≡◌, true, take}
use Rattle.std.specs.List.{list_all}
use Rattle.certificate_lines.specs.Text.{has_no_status}
use Rattle.certificate_lines.proofs.statuses.is_all_free.Given as goal

abbrev pub invariant-loop-i : goal.invariant-loop-i
invariant-loop-i l = list_all (λ s. has_no_status s.status) (take l.i l.inst.sites) ≡ true
