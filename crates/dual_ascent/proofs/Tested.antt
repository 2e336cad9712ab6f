-- What tests tell, of two numbers, of one or the other, and of a list.
use Rattle.std.proofs.Common.{◌≡◌, sym, Bool, true, false, List, [], ◌∷◌, refl, arith, ℤ, ◌≤ℤ◌, ◌<ℤ◌}
use Rattle.std.specs.Prelude.{◌||◌, All, int_lt, int_le}
use Rattle.std.specs.List.{list_any}
use Rattle.std.proofs.lemmas.Int.{ints}
use Rattle.std.proofs.lemmas.Bool.{false≢true}
use Rattle.std.proofs.lemmas.List.Elements.{All-nil, All-cons}

pub int_lt-less : (x y : ℤ) → int_lt x y ≡ true → x <ℤ y
int_lt-less x y e = grind (arith, ints)

pub int_lt-not : (x y : ℤ) → int_lt x y ≡ false → y ≤ℤ x
int_lt-not x y e = grind (arith, ints)

pub int_le-less : (x y : ℤ) → int_le x y ≡ true → x ≤ℤ y
int_le-less x y e = grind (arith, ints)

pub int_le-not : (x y : ℤ) → int_le x y ≡ false → y <ℤ x
int_le-not x y e = grind (arith, ints)

pub less-int_lt : (x y : ℤ) → int_le y x ≡ false → int_lt x y ≡ true
less-int_lt x y e = grind (arith, ints)

pub neither : (a b : Bool) → (a || b) ≡ false → (a ≡ false) × (b ≡ false)
neither true b e = absurd (false≢true (sym e))
neither false b e = (refl, e)

pub or_neither : (a b : Bool) → a ≡ false → b ≡ false → (a || b) ≡ false
or_neither true b e h = absurd (false≢true (sym e))
or_neither false b e h = h

pub or_first : (a b : Bool) → a ≡ true → (a || b) ≡ true
or_first true b e = refl
or_first false b e = absurd (false≢true e)

pub none_passes : {X : Type 0} (p : X → Bool) (xs : List X) → list_any p xs ≡ false → All (λ x. p x ≡ false) xs
none_passes p [] e = All-nil (λ x. p x ≡ false)
none_passes p (x ∷ xs) e =
    let parts = neither (p x) (list_any p xs) e in
    All-cons (λ y. p y ≡ false) x xs parts.0 (none_passes p xs parts.1)
