-- Sums over the elements that pass a test.
use Rattle.std.proofs.Common.{◌≡◌, ℕ, ◌+◌, ◌<◌, Bool, true, false, cond, List, [], ◌∷◌, ◌++◌, length, take, get_or, ap, ◌∙◌, arith}
use Rattle.std.specs.Prelude.{sum_by, filter}
use Rattle.std.proofs.lemmas.List.{append-nil}
use Rattle.std.proofs.lemmas.List.Elements.{filter_more}
use Rattle.std.proofs.lemmas.List.Sums.{sum_by_push}

-- what an element at the end adds, where it passes
sum_by-last : {X : Type 0} (f : X → ℕ) (ys : List X) (b : Bool) (x : X) → sum_by f (ys ++ cond b (x ∷ []) []) ≡ sum_by f ys + cond b (f x) 0
sum_by-last f ys true x = omega (arith, sum_by_push f ys x)
sum_by-last f ys false x = omega (arith, ap (sum_by f) (append-nil ys))

pub sum_by-filter_more : {X : Type 0} (f : X → ℕ) (p : X → Bool) (xs : List X) (k : ℕ) (d : X) → k < length xs → sum_by f (filter p (take (k + 1) xs)) ≡ sum_by f (filter p (take k xs)) + cond (p (get_or xs k d)) (f (get_or xs k d)) 0
sum_by-filter_more f p xs k d b = ap (sum_by f) (filter_more p xs k d b) ∙ sum_by-last f (filter p (take k xs)) (p (get_or xs k d)) (get_or xs k d)
