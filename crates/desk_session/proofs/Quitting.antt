-- A line that asks something of the keeper is none of the session's, and doesn't end it.
use Rattle.std.proofs.Common.{◌≡◌, ℕ, Bool, true, false, List, [], ◌∷◌, None, Some, codes, refl, sym, ap, subst}
use Rattle.std.specs.Prelude.{bytes_eq, if◌then◌else◌}
use Rattle.std.proofs.lemmas.Slice.Eq.{bytes_eq-Decides}
use Rattle.number_words.specs.Line.{words_of_line}
use Rattle.session_lines.specs.Lines.{line_of_words, asks_to_quit, quits}
use Rattle.scenario_keeper.specs.Spelling.{is_name}
use Rattle.desk_session.specs.Lines.{KeeperLine, Keep, Load, Forget, Names, named_line, keeper_words, keeper_line}

-- the words are those of no line of a session
abbrev IsOther : List (List ℕ) → Type 0
IsOther words = line_of_words words ≡ None

module _ (verb : List ℕ) (words : List (List ℕ)) (asked : KeeperLine) where
  spelled : (word : List ℕ) → bytes_eq verb word ≡ true → IsOther (word ∷ words) → IsOther (verb ∷ words)
  spelled word same other = subst (λ v. IsOther (v ∷ words)) (sym ((bytes_eq-Decides verb word).0 same)) other

  by_forget : (b : Bool) (name : List ℕ) → bytes_eq verb (codes "forget") ≡ b → (if b then Some (Forget name) else None) ≡ Some asked → IsOther (verb ∷ words)
  by_forget true name same is = spelled (codes "forget") same refl
  by_forget false name same is = absurd cc

  by_load : (b : Bool) (name : List ℕ) → bytes_eq verb (codes "load") ≡ b
      → (if b then Some (Load name) else (if bytes_eq verb (codes "forget") then Some (Forget name) else None)) ≡ Some asked → IsOther (verb ∷ words)
  by_load true name same is = spelled (codes "load") same refl
  by_load false name same is = by_forget (bytes_eq verb (codes "forget")) name refl is

  by_keep : (b : Bool) (name : List ℕ) → bytes_eq verb (codes "keep") ≡ b
      → (if b then Some (Keep name) else (if bytes_eq verb (codes "load") then Some (Load name) else (if bytes_eq verb (codes "forget") then Some (Forget name) else None))) ≡ Some asked → IsOther (verb ∷ words)
  by_keep true name same is = spelled (codes "keep") same refl
  by_keep false name same is = by_load (bytes_eq verb (codes "load")) name refl is

  by_names : (b : Bool) → bytes_eq verb (codes "names") ≡ b → (if b then Some Names else None) ≡ Some asked → IsOther (verb ∷ words)
  by_names true same is = spelled (codes "names") same refl
  by_names false same is = absurd cc

  by_name : (b : Bool) (name : List ℕ) → (if b then named_line verb name else None) ≡ Some asked → IsOther (verb ∷ words)
  by_name true name is = by_keep (bytes_eq verb (codes "keep")) name refl is
  by_name false name is = absurd cc

other_words : (words : List (List ℕ)) (asked : KeeperLine) → keeper_words words ≡ Some asked → IsOther words
other_words [] asked is = absurd cc
other_words (verb ∷ []) asked is = by_names verb [] asked (bytes_eq verb (codes "names")) refl is
other_words (verb ∷ name ∷ []) asked is = by_name verb (name ∷ []) asked (is_name name) name is
other_words (verb ∷ name ∷ word ∷ words) asked is = absurd cc

-- a line that asks something of the keeper doesn't end the session
pub asked_goes_on : (line : List ℕ) (asked : KeeperLine) → keeper_line line ≡ Some asked → quits line ≡ false
asked_goes_on line asked is = ap asks_to_quit (other_words (words_of_line line) asked is)
