-- The words of a desk's command line.
use Rattle.std.specs.Prelude.{ℕ, List, [], ◌∷◌, Option, None, if◌then◌else◌}
use Rattle.std.specs.Option.{option_and_then}
use Rattle.instance_forms.specs.Forms.{InstanceFile, file_of}
use Rattle.dualoc_cli.specs.Command.{are_names, options_of, no_budget}

-- The instance's file, where the words are its form, its name, and the name of another file for the store; a capacity may be given behind them.
unfoldable pub desk_file : List (List ℕ) → Option InstanceFile
desk_file (form ∷ file ∷ store ∷ options) = if are_names (file ∷ store ∷ []) then option_and_then (λ o. file_of form file o.capacity) (options_of no_budget options) else None
desk_file _ = None
