-- The forms of instance files: their words, and what a file of each means.
use Rattle.std.specs.Prelude.{ℕ, List, drop, take, Option, None, Some, Result, codes, bytes_eq, if◌then◌else◌}
use Rattle.std.specs.Option.{option_map}
use Rattle.std.specs.Result.{result_ok}
use Rattle.location_terms.specs.Instance.{Instance}
use Rattle.fixed_cost.specs.Amount.{amount_of}
use Rattle.fixed_cost.specs.declared.fault.FileFault.{FileFault}
use Rattle.ufllib_read.specs.Ufl.{ufl_meaning}
use Rattle.orlib_read.specs.Warehouses.{warehouse_meaning}
use Rattle.orlib_read.specs.declared.capacities.Capacities.TheVariants.{Kept, Ignored}
use Rattle.pmed_paths.specs.Pmed.{median_meaning}
use Rattle.instance_text.specs.Own.{own_meaning}
use Rattle.instance_forms.specs.declared.form.FileForm.{FileForm}
use Rattle.instance_forms.specs.declared.form.FileForm.TheVariants.{Cap, Uncap, Ufl, Pmed, Own}
use Rattle.instance_forms.specs.declared.file.InstanceFile as in_memory

-- the form of instance files that a word names; a word that names a form that isn't read names none
abbrev pub form_of : List ℕ → Option FileForm
form_of word =
    if bytes_eq word (codes "cap") then Some Cap
    else (if bytes_eq word (codes "uncap") then Some Uncap
    else (if bytes_eq word (codes "ufl") then Some Ufl else (if bytes_eq word (codes "pmed") then Some Pmed else (if bytes_eq word (codes "own") then Some Own else None))))

-- what the bytes of a file of a form mean: an instance, or the first fault; given is the amount of the option `capacity`, in millionths, where it is there
abbrev pub meaning_of : FileForm → Option ℕ → List ℕ → Result Instance FileFault
meaning_of Cap given bytes = warehouse_meaning (Kept given) bytes
meaning_of Uncap given bytes = warehouse_meaning Ignored bytes
meaning_of Ufl given bytes = ufl_meaning bytes
meaning_of Pmed given bytes = median_meaning bytes
meaning_of Own given bytes = own_meaning bytes

-- the file of an instance: its form, its name, and the amount of the option `capacity`, where it is there
pub record InstanceFile : Type 0 where
  pub form : FileForm
  pub name : List ℕ
  pub given : Option ℕ

abbrev pub instance_file : FileForm → List ℕ → Option ℕ → InstanceFile
instance_file form name given = record { form = form; name = name; given = given }

-- what the bytes of such a file mean
abbrev pub meaning_in : InstanceFile → List ℕ → Result Instance FileFault
meaning_in file bytes = meaning_of file.form file.given bytes

-- the capacity that an option gives: an amount in any spelling, in millionths
abbrev pub capacity_of : List ℕ → Option ℕ
capacity_of word = if bytes_eq (take 9 word) (codes "capacity=") then result_ok (amount_of (drop 9 word)) else None

-- the file that a form and a name are words for; a capacity may be given with the form `cap` alone
abbrev pub file_of : List ℕ → List ℕ → Option ℕ → Option InstanceFile
file_of form name None = option_map (λ f. instance_file f name None) (form_of form)
file_of form name (Some capacity) = if bytes_eq form (codes "cap") then Some (instance_file Cap name (Some capacity)) else None

-- the file that is named in memory
abbrev pub file_in : in_memory.InstanceFile → InstanceFile
file_in file = record { form = file.form; name = file.name.now; given = file.given }
