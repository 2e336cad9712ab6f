-- Names of scenarios are texts.
use Rattle.std.proofs.Common.{◌≡◌, ◌<◌, ℕ, zero, suc, true, List, [], ◌∷◌, IsAscii, IsUtf8, arith}
use Rattle.std.proofs.lemmas.Bool.{and_parts}
use Rattle.std.specs.List.{list_all}
use Rattle.std.proofs.lemmas.Str.{IsUtf8-from_ascii}
use Rattle.scenario_keeper.specs.Spelling.{is_name, is_name_byte}

small : (b : ℕ) → is_name_byte b ≡ true → b < 128
small b it = grind (arith, it)

name-IsAscii : (bytes : List ℕ) → list_all is_name_byte bytes ≡ true → IsAscii bytes
name-IsAscii [] all i = omega arith
name-IsAscii (b ∷ bytes) all zero = small b (and_parts _ _ all).0
name-IsAscii (b ∷ bytes) all (suc i) = name-IsAscii bytes (and_parts _ _ all).1 i

pub name_text : (word : List ℕ) → is_name word ≡ true → IsUtf8 word
name_text word is = IsUtf8-from_ascii word (name-IsAscii word (and_parts _ _ is).1)
