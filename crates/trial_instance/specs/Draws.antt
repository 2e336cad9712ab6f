-- The numbers that are drawn from a seed: a linear congruential generator, whose constants are those of the example of the function rand in the standard of C.
use Rattle.std.specs.Prelude.{ℕ, zero, suc, ◌+◌, ◌*◌, ◌/◌, ◌%◌, ◌^◌}

-- the state behind a state
abbrev pub next_state : ℕ → ℕ
next_state x = (1103515245 * x + 12345) % 2 ^ 31

-- the state after so many draws
unfoldable pub state_after : ℕ → ℕ → ℕ
state_after seed zero = seed
state_after seed (suc k) = next_state (state_after seed k)

-- draw number k, counted from 0
abbrev pub draw_at : ℕ → ℕ → ℕ
draw_at seed k = state_after seed (suc k) / 65536
