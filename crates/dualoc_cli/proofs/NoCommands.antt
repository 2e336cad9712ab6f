-- Words of a length that no command has.
use Rattle.std.proofs.Common.{◌≡◌, ℕ, ◌<◌, List, [], ◌∷◌, map, length, None, refl, arith}
use Rattle.std.proofs.lemmas.List.{length-map}
use Rattle.dualoc_cli.specs.Command.{solve_command, duals_command, check_command, convert_command, session_command, range_command, fixed_range_command, lane_range_command, center_command, curve_command}

module _ {X : Type 0} (f : X → List ℕ) (words : List X) where
  few : (n : ℕ) → length words < n → length (map f words) < n
  few n h = omega (arith, h, length-map words f)

none_of_few : (words : List (List ℕ)) → length words < 4 → (length words ≡ 2 → ⊥) → None ≡ solve_command words
unfolding solve_command
none_of_few [] h other = refl
none_of_few (a ∷ []) h other = refl
none_of_few (a ∷ b ∷ []) h other = absurd (other refl)
none_of_few (a ∷ b ∷ c ∷ []) h other = refl
none_of_few (a ∷ b ∷ c ∷ d ∷ rest) h other = absurd (omega (arith, h))

none_of_one : (words : List (List ℕ)) → length words < 2 → None ≡ duals_command words
unfolding duals_command
none_of_one [] h = refl
none_of_one (a ∷ []) h = refl
none_of_one (a ∷ b ∷ rest) h = absurd (omega (arith, h))

none_of_one_name : (words : List (List ℕ)) → length words < 2 → None ≡ session_command words
unfolding session_command
none_of_one_name [] h = refl
none_of_one_name (a ∷ []) h = refl
none_of_one_name (a ∷ b ∷ rest) h = absurd (omega (arith, h))

none_of_two : (words : List (List ℕ)) → length words < 3 → None ≡ check_command words
unfolding check_command
none_of_two [] h = refl
none_of_two (a ∷ []) h = refl
none_of_two (a ∷ b ∷ []) h = refl
none_of_two (a ∷ b ∷ c ∷ rest) h = absurd (omega (arith, h))

none_of_two_names : (words : List (List ℕ)) → length words < 3 → None ≡ convert_command words
unfolding convert_command
none_of_two_names [] h = refl
none_of_two_names (a ∷ []) h = refl
none_of_two_names (a ∷ b ∷ []) h = refl
none_of_two_names (a ∷ b ∷ c ∷ rest) h = absurd (omega (arith, h))

none_of_three : (words : List (List ℕ)) → length words < 4 → None ≡ range_command words
unfolding range_command
none_of_three [] h = refl
none_of_three (a ∷ []) h = refl
none_of_three (a ∷ b ∷ []) h = refl
none_of_three (a ∷ b ∷ c ∷ []) h = refl
none_of_three (a ∷ b ∷ c ∷ d ∷ rest) h = absurd (omega (arith, h))

none_of_no_site : (form file certificate : List ℕ) (words : List (List ℕ)) → length words < 1 → None ≡ fixed_range_command form file certificate words
unfolding fixed_range_command
none_of_no_site form file certificate [] h = refl
none_of_no_site form file certificate (a ∷ rest) h = absurd (omega (arith, h))

none_of_no_lane : (form file certificate : List ℕ) (words : List (List ℕ)) → length words < 2 → None ≡ lane_range_command form file certificate words
unfolding lane_range_command
none_of_no_lane form file certificate [] h = refl
none_of_no_lane form file certificate (a ∷ []) h = refl
none_of_no_lane form file certificate (a ∷ b ∷ rest) h = absurd (omega (arith, h))

none_of_five : (words : List (List ℕ)) → length words < 5 → None ≡ center_command words
unfolding center_command
none_of_five [] h = refl
none_of_five (a ∷ []) h = refl
none_of_five (a ∷ b ∷ []) h = refl
none_of_five (a ∷ b ∷ c ∷ []) h = refl
none_of_five (a ∷ b ∷ c ∷ d ∷ []) h = refl
none_of_five (a ∷ b ∷ c ∷ d ∷ e ∷ rest) h = absurd (omega (arith, h))

none_of_four : (words : List (List ℕ)) → length words < 4 → None ≡ curve_command words
unfolding curve_command
none_of_four [] h = refl
none_of_four (a ∷ []) h = refl
none_of_four (a ∷ b ∷ []) h = refl
none_of_four (a ∷ b ∷ c ∷ []) h = refl
none_of_four (a ∷ b ∷ c ∷ d ∷ rest) h = absurd (omega (arith, h))

pub no_solve : {X : Type 0} (f : X → List ℕ) (words : List X) → length words < 4 → (length words ≡ 2 → ⊥) → None ≡ solve_command (map f words)
no_solve f words h other = none_of_few (map f words) (few f words 4 h) (λ two. let same : length words ≡ 2 = omega (arith, two, length-map words f) in other same)

pub no_duals : {X : Type 0} (f : X → List ℕ) (words : List X) → length words < 2 → None ≡ duals_command (map f words)
no_duals f words h = none_of_one (map f words) (few f words 2 h)

pub no_check : {X : Type 0} (f : X → List ℕ) (words : List X) → length words < 3 → None ≡ check_command (map f words)
no_check f words h = none_of_two (map f words) (few f words 3 h)

pub no_convert : {X : Type 0} (f : X → List ℕ) (words : List X) → length words < 3 → None ≡ convert_command (map f words)
no_convert f words h = none_of_two_names (map f words) (few f words 3 h)

pub no_session : {X : Type 0} (f : X → List ℕ) (words : List X) → length words < 2 → None ≡ session_command (map f words)
no_session f words h = none_of_one_name (map f words) (few f words 2 h)

pub no_range : {X : Type 0} (f : X → List ℕ) (words : List X) → length words < 4 → None ≡ range_command (map f words)
no_range f words h = none_of_three (map f words) (few f words 4 h)

pub no_fixed_range : {X : Type 0} (f : X → List ℕ) (form file certificate : List ℕ) (words : List X) → length words < 1 → None ≡ fixed_range_command form file certificate (map f words)
no_fixed_range f form file certificate words h = none_of_no_site form file certificate (map f words) (few f words 1 h)

pub no_lane_range : {X : Type 0} (f : X → List ℕ) (form file certificate : List ℕ) (words : List X) → length words < 2 → None ≡ lane_range_command form file certificate (map f words)
no_lane_range f form file certificate words h = none_of_no_lane form file certificate (map f words) (few f words 2 h)

pub no_center : {X : Type 0} (f : X → List ℕ) (words : List X) → length words < 5 → None ≡ center_command (map f words)
no_center f words h = none_of_five (map f words) (few f words 5 h)

pub no_curve : {X : Type 0} (f : X → List ℕ) (words : List X) → length words < 4 → None ≡ curve_command (map f words)
no_curve f words h = none_of_four (map f words) (few f words 4 h)
