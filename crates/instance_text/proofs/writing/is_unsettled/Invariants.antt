use Rattle.std.proofs.Common.{◌≡◌, take}
use Rattle.std.specs.Prelude.{not, ◌&&◌}
use Rattle.std.specs.List.{list_all}
use Rattle.location_terms.specs.Box.{must_open, must_close}
use Rattle.instance_text.proofs.writing.is_unsettled.Given as goal

abbrev pub invariant-loop-i : goal.invariant-loop-i
invariant-loop-i l = l.free ≡ list_all (λ x. not (must_open x.status) && not (must_close x.status)) (take l.i l.inst.sites)
