use Rattle.std.proofs.Common.{ℕ, ◌<◌, length}
use Rattle.location_terms.specs.Instance.{site_at, customer_at}
use Rattle.plan_radius.specs.Changing.{HasChanged, IsPartlyChanged}
use Rattle.plan_radius.proofs.lane_change.change_lanes.Given as goal

-- the lanes of the sites so far are changed
abbrev pub invariant-loop-site : goal.invariant-loop-site
invariant-loop-site l = record {
  part : IsPartlyChanged l.change l.initial.inst l.inst;
  first : (i j : ℕ) → i < l.site → j < length l.initial.inst.customers → HasChanged l.change l.initial.inst l.inst (site_at l.initial.inst i).id (customer_at l.initial.inst j).id;
}
