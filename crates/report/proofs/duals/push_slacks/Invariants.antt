use Rattle.std.proofs.Common.{◌≡◌, ◌++◌, flat_map}
use Rattle.std.specs.List.{range_with_len}
use Rattle.report.specs.DualsText.{slack_line}
use Rattle.report.proofs.duals.push_slacks.Given as goal

abbrev pub invariant-loop-site : goal.invariant-loop-site
invariant-loop-site l = l.text.items ≡ l.fn.text.items ++ flat_map (slack_line l.inst l.duals) (range_with_len 0 l.site)
