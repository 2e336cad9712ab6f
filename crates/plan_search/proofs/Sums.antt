-- Sums over lists of which terms are changed, left out or compared.
use Rattle.std.proofs.Common.{◌≡◌, ℕ, ◌+◌, ◌≤◌, Bool, true, false, cond, List, [], ◌∷◌, map, refl, sym, ap, ◌∙◌, arith}
use Rattle.std.specs.Prelude.{All, Option, Some, sum_by, filter, filter_map}
use Rattle.std.specs.List.{cons_option}
use Rattle.std.proofs.lemmas.List.Elements.{All-head, All-tail}
use Rattle.std.proofs.lemmas.List.Sums.{sum_by-cons}

module _ {X : Type 0} where
  -- a sum over what passes a test
  pub sum_by-filter : (f : X → ℕ) (p : X → Bool) (xs : List X) → sum_by f (filter p xs) ≡ sum_by (λ x. cond (p x) (f x) 0) xs
  sum_by-filter f p [] = refl
  sum_by-filter f p (x ∷ xs) = by (p x) ∙ ap (λ n. cond (p x) (f x) 0 + n) (sum_by-filter f p xs) ∙ sym (sum_by-cons (λ y. cond (p y) (f y) 0) x xs)
    where
      by : (b : Bool) → sum_by f (cond b (x ∷ filter p xs) (filter p xs)) ≡ cond b (f x) 0 + sum_by f (filter p xs)
      by true = sum_by-cons f x (filter p xs)
      by false = omega arith

  pub sum_by-map : {Y : Type 0} (f : Y → ℕ) (h : X → Y) (xs : List X) → sum_by f (map h xs) ≡ sum_by (λ x. f (h x)) xs
  sum_by-map f h [] = refl
  sum_by-map f h (x ∷ xs) = sum_by-cons f (h x) (map h xs) ∙ ap (λ n. f (h x) + n) (sum_by-map f h xs) ∙ sym (sum_by-cons (λ y. f (h y)) x xs)

  pub sum_by-agree : (f g : X → ℕ) (xs : List X) → All (λ x. f x ≡ g x) xs → sum_by f xs ≡ sum_by g xs
  sum_by-agree f g [] same = refl
  sum_by-agree f g (x ∷ xs) same =
      let first : f x ≡ g x = All-head (λ y. f y ≡ g y) x xs same in
      omega (arith, first, sum_by-agree f g xs (All-tail (λ y. f y ≡ g y) x xs same), sum_by-cons f x xs, sum_by-cons g x xs)

  pub sum_by-below : (f g : X → ℕ) (xs : List X) → All (λ x. f x ≤ g x) xs → sum_by f xs ≤ sum_by g xs
  sum_by-below f g [] less = omega arith
  sum_by-below f g (x ∷ xs) less =
      let first : f x ≤ g x = All-head (λ y. f y ≤ g y) x xs less in
      omega (arith, first, sum_by-below f g xs (All-tail (λ y. f y ≤ g y) x xs less), sum_by-cons f x xs, sum_by-cons g x xs)

  -- a function that gives something at each element
  pub filter_map-all : {Y : Type 0} (h : X → Option Y) (f : X → Y) (xs : List X) → All (λ x. h x ≡ Some (f x)) xs → filter_map h xs ≡ map f xs
  filter_map-all h f [] each = refl
  filter_map-all h f (x ∷ xs) each =
      ap (λ o. cons_option o (filter_map h xs)) (All-head (λ y. h y ≡ Some (f y)) x xs each) ∙ ap (λ ys. f x ∷ ys) (filter_map-all h f xs (All-tail (λ y. h y ≡ Some (f y)) x xs each))
