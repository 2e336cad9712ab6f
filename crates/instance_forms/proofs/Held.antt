-- What a read of a whole file tells of it, as what the file may hold.
use Rattle.std.proofs.Common.{◌≡◌, ℕ, ◌+◌, ◌<◌, List, length, Option, None, Some, refl, arith}
use Rattle.std.specs.Prelude.{IsSomeAnd, replicate}
use Rattle.std.specs.FinMap.{get}
use Rattle.std.proofs.lemmas.List.{length-replicate}
use Rattle.shelf_port.specs.Files.{Files, HasFile, MayHold}
use Rattle.fixed_cost.specs.declared.limits.TheConstants.{MAX_INSTANCE_BYTES}
use Rattle.instance_forms.specs.Reading.{IsLong}

longer : (n : ℕ) → (bytes : List ℕ) × (n < length bytes)
longer n = (replicate (n + 1) 0, omega (arith, length-replicate {A = ℕ} (n + 1) 0))

long_bytes : (n : ℕ) (found : Option (List ℕ)) → IsSomeAnd found (λ file. n < length file) → (bytes : List ℕ) × (found ≡ Some bytes) × (n < length bytes)
long_bytes n None h = absurd h
long_bytes n (Some file) h = (file, refl, h)

-- a file that is told to be longer than n holds such bytes; one that is not told may
may_hold_long : (n : ℕ) (told : Option Files) (name : List ℕ) → HasFile told name (λ file. n < length file) → (bytes : List ℕ) × MayHold told name bytes × (n < length bytes)
may_hold_long n None name h = let long = longer n in (long.0, tt, long.1)
may_hold_long n (Some files) name h = long_bytes n (get files name) h

pub too_long : (told : Option Files) (name : List ℕ) → HasFile told name (λ bytes. MAX_INSTANCE_BYTES < length bytes) → IsLong told name
too_long told name long =
    let held = may_hold_long MAX_INSTANCE_BYTES told name long in
    record { bytes = held.0; held = held.1; beyond = held.2 }
