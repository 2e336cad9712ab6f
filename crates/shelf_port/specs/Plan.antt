-- How the calls of an object in memory go: which of them fail, and what is counted.
use Rattle.std.specs.Prelude.{◌≡◌, ◌↔◌, ℕ, Contains}
use Rattle.shelf_port.specs.Files.{one_more, CountsOnly}
use Rattle.shelf_port.specs.declared.plan.CallPlan.{CallPlan}

-- the number of the next call, counted from 1
abbrev pub next_call : CallPlan → ℕ
next_call plan = one_more plan.made

-- the next call is one of those that are to fail
abbrev pub NextFails : CallPlan → Type 0
NextFails plan = Contains plan.failing.items (next_call plan)

-- the plan once that call was made
abbrev pub after_call : CallPlan → CallPlan
after_call plan = record plan { made = next_call plan }

-- the same calls fail, and one call moves at most so many bytes
pub record IsInPieces (most : ℕ) (old new : CallPlan) : Type 0 where
  pub width : new.width ≡ most
  pub failing : new.failing ≡ old.failing
  pub made : new.made ≡ old.made

-- One call was made. It failed exactly where it was one of those that are to fail, and a fault was counted once.
pub record IsPlanned (failed : Type 0) (before after : ℕ) (old new : CallPlan) : Type 0 where
  pub planned : failed ↔ NextFails old
  pub counts_only : CountsOnly failed before after
  pub made : new ≡ after_call old
