-- Lists by their parts: what all elements have, the least of some numbers, and the last element.
use Rattle.std.proofs.Common.{◌≡◌, ℕ, ◌≤◌, Bool, true, false, List, [], ◌∷◌, ◌++◌, get_or, min, Option, None, Some, refl, ◌∙◌, arith}
use Rattle.std.specs.Prelude.{All, fold, filter, find}
use Rattle.std.specs.List.{last_or}
use Rattle.std.proofs.Math.Nat.{min-le_left}
use Rattle.std.proofs.lemmas.Bool.{cond_both, cond-true, cond-false}
use Rattle.std.proofs.lemmas.List.Elements.{All-head, All-tail, All-contains, Contains-get_or, Contains-append_left, Contains-append_right}

-- what all of a list have, all of both its parts have
pub both : {X : Type 0} (P : X → Type 0) (xs ys : List X) → All P (xs ++ ys) → All P xs × All P ys
both P xs ys all = (
  λ k d within. All-contains P (xs ++ ys) (get_or xs k d) all (Contains-append_left xs ys (get_or xs k d) (Contains-get_or xs k d within)),
  λ k d within. All-contains P (xs ++ ys) (get_or ys k d) all (Contains-append_right xs ys (get_or ys k d) (Contains-get_or ys k d within)),
)

-- the least of some numbers is at least what none of them is below
pub least_above : {X : Type 0} (f : X → ℕ) (p : X → Bool) (low a : ℕ) (xs : List X) → low ≤ a → All (λ x. p x ≡ true → low ≤ f x) xs → low ≤ fold (λ m x. min m (f x)) a (filter p xs)
least_above f p low a [] within all = within
least_above {X} f p low a (x ∷ xs) within all =
    let rest : All (λ y. p y ≡ true → low ≤ f y) xs = All-tail (λ y. p y ≡ true → low ≤ f y) x xs all in
    cond_both (p x) (x ∷ filter p xs) (filter p xs) (λ ys. low ≤ fold (λ m y. min m (f y)) a ys)
    (λ passes. least_above f p low (min a (f x)) xs (omega (arith, within, All-head (λ y. p y ≡ true → low ≤ f y) x xs all passes)) rest)
    (λ _. least_above f p low a xs within rest)

-- and it is at most the first number
pub fold_small : {X : Type 0} (f : X → ℕ) (a : ℕ) (xs : List X) → fold (λ m x. min m (f x)) a xs ≤ a
fold_small f a [] = omega arith
fold_small f a (x ∷ xs) = omega (arith, fold_small f (min a (f x)) xs, min-le_left a (f x))

-- the last element
pub last_pushed : {X : Type 0} (o : Option X) (xs : List X) (x : X) → last_or o (xs ++ x ∷ []) ≡ Some x
last_pushed o [] x = refl
last_pushed o (y ∷ xs) x = last_pushed (Some y) xs x

-- is found, where no element before it passes
pub found_last : {X : Type 0} (p : X → Bool) (xs : List X) (x : X) → All (λ y. p y ≡ false) xs → p x ≡ true → find p (xs ++ x ∷ []) ≡ Some x
found_last p [] x none is = cond-true (p x) (Some x) None is
found_last p (y ∷ xs) x none is =
    cond-false (p y) (Some y) (find p (xs ++ x ∷ [])) (All-head (λ z. p z ≡ false) y xs none) ∙ found_last p xs x (All-tail (λ z. p z ≡ false) y xs none) is
