-- Names, and rows of lanes, word by word.
use Rattle.std.proofs.Common.{◌≡◌, List, [], ◌∷◌, ◌++◌, ℕ, Bool, true, false, Option, Some, None, option_map, ap, refl, append_assoc}
use Rattle.std.specs.Str.{IsUtf8, is_utf8}
use Rattle.std.proofs.lemmas.Str.{IsUtf8-from_is_utf8, is_utf8-from_IsUtf8}
use Rattle.session_lines.specs.Lines.{joined, name_word}

-- UTF-8 is a name, and nothing else is
pub named : (name word : List ℕ) → name ≡ word → IsUtf8 word → Some name ≡ name_word word
named name word is utf8 = rw (is_utf8-from_IsUtf8 word utf8, is) refl

not_true : (b : Bool) → ¬ (b ≡ true) → b ≡ false
not_true true other = absurd (other refl)
not_true false other = refl

pub unnamed : (word : List ℕ) → ¬ (IsUtf8 word) → option_map (λ (s : List ℕ). s) None ≡ name_word word
unnamed word other = rw (not_true (is_utf8 word) (λ utf8. other (IsUtf8-from_is_utf8 word utf8))) refl

-- lanes, and those that further words give
abbrev pub with_front : List (Option ℕ) → Option (List (Option ℕ)) → Option (List (Option ℕ))
with_front lanes rest = option_map (λ more. lanes ++ more) rest

pub front_none : (rest : Option (List (Option ℕ))) → with_front [] rest ≡ rest
front_none None = refl
front_none (Some more) = refl

pub front_more : (lanes : List (Option ℕ)) (lane : Option ℕ) (rest : Option (List (Option ℕ))) → with_front (lanes ++ lane ∷ []) rest ≡ with_front lanes (joined (Some lane) rest)
front_more lanes lane None = refl
front_more lanes lane (Some more) = ap Some (append_assoc lanes (lane ∷ []) more)
