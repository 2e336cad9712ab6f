-- Which row of a session's lines a first word matches.
use Rattle.std.proofs.Common.{◌≡◌, ℕ, false, true, List, [], ◌∷◌, Option, None, refl, subst}
use Rattle.std.specs.Prelude.{bytes_eq, find, option_and_then}
use Rattle.std.proofs.lemmas.Slice.Eq.{bytes_eq-Decides}
use Rattle.session_lines.specs.Lines.{SessionLine, line_of_words}

-- what words ask for whose first one is this
pub spelled : (word verb : List ℕ) (words : List (List ℕ)) (asked : Option SessionLine) → bytes_eq word verb ≡ true → asked ≡ line_of_words (word ∷ words) → asked ≡ line_of_words (verb ∷ words)
spelled word verb words asked same is = subst (λ (v : List ℕ). asked ≡ line_of_words (v ∷ words)) ((bytes_eq-Decides word verb).0 same) is

-- the first word is that of no row
abbrev pub Misses : List (List ℕ × (List (List ℕ) → Option SessionLine)) → List ℕ → Type 0
Misses [] verb = Unit {0}
Misses (row ∷ rows) verb = (bytes_eq row.0 verb ≡ false) × Misses rows verb

pub missed : (rows : List (List ℕ × (List (List ℕ) → Option SessionLine))) (verb : List ℕ) (words : List (List ℕ)) → Misses rows verb → option_and_then (λ row. row.1 words) (find (λ row. bytes_eq row.0 verb) rows) ≡ None
missed [] verb words none = refl
missed (row ∷ rows) verb words none = rw none.0 (missed rows verb words none.1)
