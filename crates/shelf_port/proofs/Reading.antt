-- A file that is read in pieces.
use Rattle.std.proofs.Common.{◌≡◌, ℕ, ◌+◌, ◌<◌, ◌≤◌, List, [], ◌++◌, length, take, drop, refl, ap, sym, ◌∙◌, subst, arith, length-append}
use Rattle.std.proofs.lemmas.List.{length-take, take_all}
use Rattle.std.specs.Prelude.{Option, None, Some, IsSomeAnd}
use Rattle.std.specs.FinMap.{get}
use Rattle.shelf_port.specs.Files.{Files, HasFile, IsPiece}
use Rattle.shelf_port.proofs.Lists.{take-add}

-- what was read so far is the front of the named file, where that is told and there
abbrev pub ReadSoFar : Option Files → List ℕ → List ℕ → Type 0
ReadSoFar told name content = (files : Files) (file : List ℕ) → told ≡ Some files → get files name ≡ Some file → content ≡ take (length content) file

pub read_nothing : (told : Option Files) (name : List ℕ) → ReadSoFar told name []
read_nothing told name files file is at = refl

-- what a file that is told and there has besides, once it has P
has_more : (told : Option Files) (name : List ℕ) (P Q : List ℕ → Type 0)
    → ((files : Files) (file : List ℕ) → told ≡ Some files → get files name ≡ Some file → P file → Q file)
    → HasFile told name P → HasFile told name Q
has_more None name P Q more has = has
has_more (Some files) name P Q more has =
    elim (get files name) as (λ found. get files name ≡ found → IsSomeAnd found P → IsSomeAnd found Q) [
      | None ↦ λ at h. h
      | Some file ↦ λ at h. more files file refl at h
    ] refl has

-- of a file that is told and there what P says
file_has : (told : Option Files) (name : List ℕ) (P : List ℕ → Type 0) (files : Files) (file : List ℕ)
    → told ≡ Some files → get files name ≡ Some file → HasFile told name P → P file
file_has told name P files file is at has =
    let there : IsSomeAnd (get files name) P = subst (λ t. HasFile t name P) is has in
    subst (λ found. IsSomeAnd found P) at there

-- The three turns of a loop that reads: it is at a place with so much read, and the files are as they were.

pub read_further : (told start : Option Files) (name content old piece next : List ℕ) (at n : ℕ)
    → told ≡ start → at ≡ length content
    → ReadSoFar start name content
    → HasFile told name (λ file. IsPiece file at n old piece)
    → n ≤ length piece → next ≡ content ++ take n piece
    → ReadSoFar start name next
read_further told start name content old piece next at n same place so_far reads within step files file is there =
    let read : IsPiece file at n old piece = file_has told name _ files file (same ∙ is) there reads in
    let len : length next ≡ length content + n = omega (arith, ap length step, length-append content (take n piece), length-take n piece) in
    step
    ∙ ap (λ front. front ++ take n piece) (so_far files file is there)
    ∙ ap (λ rest. take (length content) file ++ rest) (read.front ∙ ap (λ k. take n (drop k file)) place)
    ∙ sym (take-add (length content) n file)
    ∙ ap (λ k. take k file) (sym len)

pub read_to_end : (told start : Option Files) (name content old piece : List ℕ) (at n : ℕ)
    → told ≡ start → at ≡ length content
    → ReadSoFar start name content
    → HasFile told name (λ file. IsPiece file at n old piece)
    → n ≡ 0 → 0 < length piece
    → HasFile start name (λ file. content ≡ file)
read_to_end told start name content old piece at n same place so_far reads none room =
    has_more start name _ _
    (λ files file is there read. so_far files file is there ∙ take_all (length content) file (subst (λ k. length file ≤ k) place (read.end none room)))
    (subst (λ t. HasFile t name (λ file. IsPiece file at n old piece)) same reads)
