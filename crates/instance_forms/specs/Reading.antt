-- What the reading of an instance's file tells of it. Of a shelf that tells nothing, as the host's, only that there are such bytes.
use Rattle.std.specs.Prelude.{◌≡◌, ℕ, ◌<◌, ◌≤◌, List, length, Option, Result, Ok, Err}
use Rattle.shelf_port.specs.Files.{Files, MayHold, Rose}
use Rattle.shelf_port.specs.Ports.{ShelfState}
use Rattle.location_terms.specs.Instance.{Instance}
use Rattle.fixed_cost.specs.declared.fault.FileFault.{FileFault}
use Rattle.fixed_cost.specs.declared.limits.TheConstants.{MAX_INSTANCE_BYTES}
use Rattle.instance_forms.specs.declared.reading.InstanceFault.{InstanceFault}
use Rattle.instance_forms.specs.declared.reading.InstanceFault.TheVariants.{Failed, TooLong, Faulty, NoMemory}
use Rattle.instance_forms.specs.Forms.{InstanceFile, meaning_in}

-- the file is within the limit, and its bytes mean this
pub record HasMeaning (told : Option Files) (file : InstanceFile) (meaning : Result Instance FileFault) : Type 0 where
  pub bytes : List ℕ
  pub held : MayHold told file.name bytes
  pub within : length bytes ≤ MAX_INSTANCE_BYTES
  pub means : meaning_in file bytes ≡ meaning

-- the file is longer than the limit
pub record IsLong (told : Option Files) (name : List ℕ) : Type 0 where
  pub bytes : List ℕ
  pub held : MayHold told name bytes
  pub beyond : MAX_INSTANCE_BYTES < length bytes

-- a reading answered so, between two states of the shelf: the instance that the file means, its first fault, or why it wasn't read whole
abbrev pub ReadsFile : ShelfState → ShelfState → InstanceFile → Result Instance InstanceFault → Type 0
ReadsFile old new file (Ok I) = HasMeaning old.files file (Ok I)
ReadsFile old new file (Err (Faulty fault)) = HasMeaning old.files file (Err fault)
ReadsFile old new file (Err TooLong) = IsLong old.files file.name
ReadsFile old new file (Err Failed) = Rose (old.reads file.name) (new.reads file.name)
ReadsFile old new file (Err NoMemory) = Unit {0}
