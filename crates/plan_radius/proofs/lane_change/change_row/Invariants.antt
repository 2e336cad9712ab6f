use Rattle.std.proofs.Common.{ℕ, ◌<◌}
use Rattle.location_terms.specs.Instance.{site_at, customer_at}
use Rattle.plan_radius.specs.Changing.{HasChanged, IsPartlyChanged}
use Rattle.plan_radius.proofs.lane_change.change_row.Given as goal

-- the lanes to the customers so far are changed
abbrev pub invariant-loop-cust : goal.invariant-loop-cust
invariant-loop-cust l = record {
  part : IsPartlyChanged l.change l.initial.inst l.inst;
  first : (j : ℕ) → j < l.cust → HasChanged l.change l.initial.inst l.inst (site_at l.initial.inst l.site).id (customer_at l.initial.inst j).id;
}
