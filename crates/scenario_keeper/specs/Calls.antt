-- How the calls of a keeper in memory go: which of them fail, and what is counted.
use Rattle.std.specs.Prelude.{◌≡◌, ◌↔◌, ℕ, Contains}
use Rattle.shelf_port.specs.Files.{one_more, CountsOnly}
use Rattle.scenario_keeper.specs.declared.calls.Calls.{Calls}

-- the number of the next call, counted from 1; at a counter's last value it stays there
abbrev pub next_number : Calls → ℕ
next_number calls = one_more calls.made

-- the next call is one of those that are to fail
abbrev pub NextIsToFail : Calls → Type 0
NextIsToFail calls = Contains calls.failing.items (next_number calls)

-- One more call was made. It failed exactly where it was to fail, and just then one more fault was counted.
pub record IsCalled (failed : Type 0) (old new : Calls) : Type 0 where
  pub planned : failed ↔ NextIsToFail old
  pub counted : CountsOnly failed old.faults new.faults
  pub made : new ≡ record old { made = next_number old; faults = new.faults }
