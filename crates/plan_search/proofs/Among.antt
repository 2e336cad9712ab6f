-- Which elements a list has: by a test, after a filter and by their places.
use Rattle.std.proofs.Common.{◌≡◌, ℕ, zero, suc, ◌<◌, Bool, true, false, cond, List, [], ◌∷◌, map, refl, sym, subst, ap, ◌∙◌, zero-add, arith}
use Rattle.std.specs.Prelude.{Contains, All, Any, filter, ◌==◌}
use Rattle.std.specs.List.{range_with_len}
use Rattle.std.proofs.lemmas.Bool.{eqb-true, eq-eqb, false≢true}
use Rattle.std.proofs.lemmas.List.{length-map, get_or-map}
use Rattle.std.proofs.lemmas.List.Elements.{All-contains, All-contains_itself, All-from_get_or, All-filter, filter_passes}
use Rattle.std.proofs.lemmas.List.Folds.{Any-from_list_any, list_any_at}
use Rattle.std.proofs.lemmas.List.FromFn.{get_or-range_with_len, length-range_with_len}
use Rattle.dual_ascent.proofs.Ceiling.{places_below}
use Rattle.plan_search.specs.Packed.{is_among}

pub among-contains : (xs : List ℕ) (x : ℕ) → is_among xs x ≡ true → Contains xs x
among-contains xs x t =
    let found : Any (λ k. (k == x) ≡ true) xs = Any-from_list_any (λ k. k == x) xs t in
    subst (λ y. Contains xs y) (eqb-true found.1 x found.4) (found.0, found.2, found.3)

pub contains-among : (xs : List ℕ) (x : ℕ) → Contains xs x → is_among xs x ≡ true
contains-among xs x c = list_any_at (λ k. k == x) xs c.0 x c.1 (eq-eqb _ _ c.2)

module _ {X : Type 0} where
  pub Contains-first : (xs : List X) (x : X) → Contains (x ∷ xs) x
  Contains-first xs x = (0, omega arith, refl)

  pub Contains-later : (xs : List X) (y x : X) → Contains xs x → Contains (y ∷ xs) x
  Contains-later xs y x c = (suc c.0, omega (arith, c.1), c.2)

  pub Contains-map : {Y : Type 0} (f : X → Y) (xs : List X) (x : X) → Contains xs x → Contains (map f xs) (f x)
  Contains-map f xs x c = (c.0, omega (arith, c.1, length-map xs f), get_or-map f xs c.0 x (f x) c.1 ∙ ap f c.2)

  -- a filter keeps just what passes
  pub Contains-filter : (p : X → Bool) (xs : List X) (x : X) → Contains xs x → p x ≡ true → Contains (filter p xs) x
  Contains-filter p [] x c passes = absurd (omega (arith, c.1))
  Contains-filter p (y ∷ ys) x (zero, within, same) passes = by (p y) refl
    where
      by : (b : Bool) → p y ≡ b → Contains (cond b (y ∷ filter p ys) (filter p ys)) x
      by true is = (0, omega arith, same)
      by false is = absurd (false≢true (sym is ∙ subst (λ z. p z ≡ true) (sym same) passes))
  Contains-filter p (y ∷ ys) x (suc k, within, same) passes = by (p y) (Contains-filter p ys x (k, omega (arith, within), same) passes)
    where
      by : (b : Bool) → Contains (filter p ys) x → Contains (cond b (y ∷ filter p ys) (filter p ys)) x
      by true c = Contains-later (filter p ys) y x c
      by false c = c

  pub passed : (p : X → Bool) (xs : List X) (x : X) → Contains (filter p xs) x → Contains xs x × (p x ≡ true)
  passed p xs x c = (
    All-contains (Contains xs) (filter p xs) x (All-filter p (Contains xs) xs (All-contains_itself xs)) c,
    All-contains (λ y. p y ≡ true) (filter p xs) x (filter_passes p xs) c,
  )

-- the places below a number
pub place-contained : (n i : ℕ) → i < n → Contains (range_with_len 0 n) i
place-contained n i b = (i, omega (arith, b, length-range_with_len 0 n), get_or-range_with_len 0 n i i b ∙ zero-add i)

pub contained-place : (n i : ℕ) → Contains (range_with_len 0 n) i → i < n
contained-place n i c = All-contains (λ k. k < n) (range_with_len 0 n) i (places_below n) c

-- a fact of all places below a number, as one of a list
pub of_places : (P : ℕ → Type 0) (n : ℕ) → ((j : ℕ) → j < n → P j) → All P (range_with_len 0 n)
of_places P n each =
    All-from_get_or P (range_with_len 0 n) 0
    (λ k b.
    let inside : k < n = omega (arith, b, length-range_with_len 0 n) in
    subst P (sym (get_or-range_with_len 0 n k 0 inside ∙ zero-add k)) (each k inside))
