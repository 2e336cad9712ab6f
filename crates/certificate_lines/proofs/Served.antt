-- The customers of a plan with their sites, pair by pair.
use Rattle.std.proofs.Common.{◌≡◌, ℕ, ◌+◌, ◌<◌, ◌≤◌, List, [], ◌∷◌, ◌++◌, map, length, drop, slice_index, Option, Some, refl, sym, ap, subst, ◌∙◌, append_assoc, arith}
use Rattle.std.specs.Prelude.{zip, SomeIff}
use Rattle.std.proofs.lemmas.List.{drop_more, drop_all, append-nil}

zip-nil : (xs : List ℕ) → zip {X = ℕ} xs [] ≡ []
zip-nil [] = refl
zip-nil (x ∷ xs) = refl

-- one more pair
pub zip-step : (xs ys : List ℕ) (j : ℕ) (front : List (ℕ × ℕ)) (x y : ℕ) → j < length xs → j < length ys → x ≡ slice_index xs j → y ≡ slice_index ys j →
    (front ++ (x, y) ∷ []) ++ zip (drop (j + 1) xs) (drop (j + 1) ys) ≡ front ++ zip (drop j xs) (drop j ys)
zip-step xs ys j front x y in_xs in_ys at_x at_y = rw (append_assoc, drop_more xs j 0 in_xs, drop_more ys j 0 in_ys, at_x, at_y) refl

-- no pair is left
pub zip-done : (xs ys : List ℕ) (j : ℕ) (front whole : List (ℕ × ℕ)) → length ys ≤ j → front ++ zip (drop j xs) (drop j ys) ≡ whole → front ≡ whole
zip-done xs ys j front whole past same =
    sym (append-nil front) ∙ ap (λ pairs. front ++ pairs) (sym (zip-nil (drop j xs)) ∙ ap (zip (drop j xs)) (sym (drop_all j ys past))) ∙ same

pub map-first-zip : (xs ys : List ℕ) → length xs ≤ length ys → map (λ s. s.0) (zip xs ys) ≡ xs
map-first-zip [] ys short = refl
map-first-zip (x ∷ xs) [] short = absurd (omega arith)
map-first-zip (x ∷ xs) (y ∷ ys) short = ap (λ zs. x ∷ zs) (map-first-zip xs ys (omega arith))

-- the value of a call that has one
pub value_made : {T : Type 0} (o : Option T) (P : Type 0) (v x : T) → SomeIff o P v → o ≡ Some x → x ≡ v
value_made o P v x iff is = (subst (λ (r : Option _). SomeIff r P v) is iff).1
