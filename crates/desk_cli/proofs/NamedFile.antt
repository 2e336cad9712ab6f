-- The words of a desk.
use Rattle.std.proofs.Common.{◌≡◌, ℕ, ◌<◌, Bool, true, false, List, [], ◌∷◌, map, length, Option, None, Some, refl, subst, arith}
use Rattle.std.specs.Prelude.{IfSome, if◌then◌else◌}
use Rattle.std.specs.Option.{option_and_then}
use Rattle.std.proofs.lemmas.List.{length-map}
use Rattle.instance_store.specs.Small.{IsSmall}
use Rattle.instance_forms.specs.Forms.{InstanceFile, file_of}
use Rattle.instance_forms.proofs.Meant.{file_small}
use Rattle.dualoc_cli.specs.declared.options.Options.{Options}
use Rattle.dualoc_cli.specs.Command.{are_names, options_of, no_budget}
use Rattle.dualoc_cli.proofs.Commands.{AreSmall, options_small}
use Rattle.desk_cli.specs.Words.{desk_file}

-- words of a length that no desk has
none_of_two : (words : List (List ℕ)) → length words < 3 → None ≡ desk_file words
unfolding desk_file
none_of_two [] h = refl
none_of_two (a ∷ []) h = refl
none_of_two (a ∷ b ∷ []) h = refl
none_of_two (a ∷ b ∷ c ∷ rest) h = absurd (omega (arith, h))

pub no_desk : {X : Type 0} (f : X → List ℕ) (words : List X) → length words < 3 → None ≡ desk_file (map f words)
no_desk f words h = none_of_two (map f words) (omega (arith, h, length-map words f))

-- the capacity that is given is an amount
file_of_small : (form name : List ℕ) (named : Bool) (options : Option Options) → AreSmall options → IfSome (if named then option_and_then (λ o. file_of form name o.capacity) options else None) (λ file. IsSmall file.given)
file_of_small form name true None small = tt
file_of_small form name true (Some o) small = file_small form name o.capacity small.0
file_of_small form name false options small = tt

words_small : (words : List (List ℕ)) → IfSome (desk_file words) (λ file. IsSmall file.given)
unfolding desk_file
words_small [] = tt
words_small (a ∷ []) = tt
words_small (a ∷ b ∷ []) = tt
words_small (form ∷ file ∷ store ∷ options) = file_of_small form file (are_names (file ∷ store ∷ [])) (options_of no_budget options) (options_small no_budget options)

pub named_small : (words : List (List ℕ)) (file : InstanceFile) → desk_file words ≡ Some file → IsSmall file.given
named_small words file named = subst (λ (f : Option InstanceFile). IfSome f (λ file. IsSmall file.given)) named (words_small words)
