-- An instance with the edits that led to it.
use Rattle.std.specs.Prelude.{◌≡◌, ℕ, List, [], ◌∷◌, ◌++◌, map, Option, Ok, refl}
use Rattle.std.specs.Coded.{Coded, code_by, coded×, coded_ℕ, coded_list, coded_option}
use Rattle.location_terms.specs.Instance.{Instance, instance_code}
use Rattle.instance_edits.specs.declared.edit.Edit.{Edit}
use Rattle.instance_edits.specs.contracts.edit.Edit.{the_row}
use Rattle.instance_edits.specs.Edits.{edits_applied}

-- an edit that was accepted, and the serial number of the tree that stood then
pub record HeldEdit : Type 0 where
  pub edit : Edit
  pub serial : Option ℕ

-- the first instance, the edits that were accepted and not taken back, in their order, and the present instance
pub record History : Type 0 where
  pub base : Instance
  pub edits : List HeldEdit
  pub instance : Instance

-- no edit was made
abbrev pub begun : Instance → History
begun I = record { base = I; edits = []; instance = I }

-- the present instance is what the edits make of the first one
abbrev pub LeadsOn : History → Type 0
LeadsOn h = edits_applied h.base (map (λ held. held.edit) h.edits) ≡ Ok h.instance

-- this is the instance before the last edit: what all edits but the last make of the first one
abbrev pub IsBeforeLast : History → Instance → Type 0
IsBeforeLast h I = (former : List HeldEdit) (last : HeldEdit) → h.edits ≡ former ++ last ∷ [] → edits_applied h.base (map (λ held. held.edit) former) ≡ Ok I

-- a history is stored as the tuple of its fields
abbrev pub held_edit_code : Coded HeldEdit
held_edit_code = code_by (Edit × Option ℕ) (coded× the_row.coded (coded_option coded_ℕ)) (λ h. (h.edit, h.serial)) (λ p. record { edit = p.0; serial = p.1 }) (λ _. refl)

abbrev pub history_code : Coded History
history_code =
    code_by (Instance × (List HeldEdit × Instance)) (coded× instance_code (coded× (coded_list held_edit_code) instance_code))
    (λ h. (h.base, (h.edits, h.instance))) (λ p. record { base = p.0; edits = p.1.0; instance = p.1.1 }) (λ _. refl)
