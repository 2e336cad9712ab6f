-- What holds of a file, where it is told.
use Rattle.std.proofs.Common.{◌≡◌, ◌⊎◌, ℕ, List, inl, inr, refl, subst}
use Rattle.std.specs.Prelude.{Option, None, Some, IsSomeAnd, ⊤}
use Rattle.std.specs.FinMap.{get}
use Rattle.shelf_port.specs.Files.{Files, HasFile}
use Rattle.shelf_lines.specs.Rest.{ForFile, TellsFile}

-- of a file that is told and there what P says
pub file_has : (told : Option Files) (name : List ℕ) (P : List ℕ → Type 0) → HasFile told name P → ForFile told name P
file_has told name P has files is file there =
    let found : IsSomeAnd (get files name) P = subst (λ t. HasFile t name P) is has in
    subst (λ f. IsSomeAnd f P) there found

-- what holds of the file holds of the bytes that are told
pub of_bytes : (told : Option Files) (name bytes : List ℕ) (P : List ℕ → Type 0) → TellsFile told name bytes → HasFile told name P → P bytes
of_bytes None name bytes P is has = absurd is
of_bytes (Some files) name bytes P is has = subst (λ file. IsSomeAnd file P) is has

-- what a file that is told and there has besides, once it has P
pub has_more : (told : Option Files) (name : List ℕ) (P Q : List ℕ → Type 0)
    → ForFile told name (λ file. P file → Q file) → HasFile told name P → HasFile told name Q
has_more None name P Q more has = has
has_more (Some files) name P Q more has =
    elim (get files name) as (λ found. get files name ≡ found → IsSomeAnd found P → IsSomeAnd found Q) [
      | None ↦ λ at h. h
      | Some file ↦ λ at h. more files refl file at h
    ] refl has

-- a file that was found by an earlier look, or by the first look at which nothing was ahead
pub found_there : (before told : Option Files) (name : List ℕ) (NoneAhead : Type 0) → before ≡ told → NoneAhead ⊎ HasFile told name (λ _. ⊤) → (NoneAhead → HasFile before name (λ _. ⊤)) → HasFile told name (λ _. ⊤)
found_there before told name NoneAhead same (inl none) look = subst (λ t. HasFile t name (λ _. ⊤)) same (look none)
found_there before told name NoneAhead same (inr there) look = there
