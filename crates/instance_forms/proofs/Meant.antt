-- What is so of the instance of a file, and of the file that words name.
use Rattle.std.proofs.Common.{◌≡◌, ℕ, Bool, true, false, List, Option, None, Some, Ok}
use Rattle.std.specs.Prelude.{IfSome, codes, bytes_eq, if◌then◌else◌}
use Rattle.std.specs.Option.{option_map}
use Rattle.location_terms.specs.Instance.{Instance, IsValid}
use Rattle.instance_store.specs.Small.{IsSmall}
use Rattle.ufllib_read.proofs.Meant as ufl
use Rattle.orlib_read.specs.declared.capacities.Capacities.TheVariants.{Kept, Ignored}
use Rattle.orlib_read.proofs.Meant as warehouses
use Rattle.pmed_paths.proofs.Meant as networks
use Rattle.instance_text.proofs.Meant as own
use Rattle.instance_forms.specs.declared.form.FileForm.{FileForm}
use Rattle.instance_forms.specs.declared.form.FileForm.TheVariants.{Cap, Uncap, Ufl, Pmed, Own}
use Rattle.instance_forms.specs.Forms.{InstanceFile, instance_file, form_of, file_of, meaning_of, meaning_in}

valid_in : (form : FileForm) (given : Option ℕ) (bytes : List ℕ) (I : Instance) → IsSmall given → meaning_of form given bytes ≡ Ok I → IsValid I
valid_in Cap given bytes I small means = warehouses.valid-meant (Kept given) bytes I small means
valid_in Uncap given bytes I small means = warehouses.valid-meant Ignored bytes I tt means
valid_in Ufl given bytes I small means = ufl.valid-meant bytes I means
valid_in Pmed given bytes I small means = networks.valid-meant bytes I means
valid_in Own given bytes I small means = own.valid-meant bytes I means

pub valid-meant : (file : InstanceFile) (bytes : List ℕ) (I : Instance) → IsSmall file.given → meaning_in file bytes ≡ Ok I → IsValid I
valid-meant file bytes I small means = valid_in file.form file.given bytes I small means

abbrev IsSmallFile : Option InstanceFile → Type 0
IsSmallFile file = IfSome file (λ f. IsSmall f.given)

named_small : (form : Option FileForm) (name : List ℕ) → IsSmallFile (option_map (λ f. instance_file f name None) form)
named_small None name = tt
named_small (Some form) name = tt

given_small : (is_cap : Bool) (name : List ℕ) (capacity : ℕ) → IsSmall (Some capacity) → IsSmallFile (if is_cap then Some (instance_file Cap name (Some capacity)) else None)
given_small true name capacity small = small
given_small false name capacity small = tt

-- the file that words name has the amount that is given
pub file_small : (form name : List ℕ) (given : Option ℕ) → IsSmall given → IfSome (file_of form name given) (λ file. IsSmall file.given)
file_small form name None small = named_small (form_of form) name
file_small form name (Some capacity) small = given_small (bytes_eq form (codes "cap")) name capacity small
