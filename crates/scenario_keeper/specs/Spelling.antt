-- How the name of a scenario is spelled.
use Rattle.std.specs.Prelude.{◌≡◌, ◌==◌, ℕ, Bool, true, ◌&&◌, ◌||◌, List, length, nat_lt, nat_le}
use Rattle.std.specs.List.{list_all}
use Rattle.scenario_keeper.specs.declared.name.TheConstants.{MAX_NAME_BYTES}

-- an ASCII letter or digit, `-` or `_`
abbrev pub is_name_byte : ℕ → Bool
is_name_byte b = (nat_le 48 b && nat_le b 57) || (nat_le 65 b && nat_le b 90) || (nat_le 97 b && nat_le b 122) || (b == 45 || b == 95)

-- a name: not empty, not too long, and of such bytes alone
abbrev pub is_name : List ℕ → Bool
is_name word = nat_lt 0 (length word) && nat_le (length word) MAX_NAME_BYTES && list_all is_name_byte word

-- the word is a name
abbrev pub IsName : List ℕ → Type 0
IsName word = is_name word ≡ true
