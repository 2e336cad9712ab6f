-- Lists of which the elements that pass a test are changed, or of which one goes: what puts the list back.
use Rattle.std.proofs.Common.{◌≡◌, ◌≢◌, ℕ, zero, suc, ◌+◌, ◌<◌, ◌==◌, Bool, true, false, cond, not, ◌||◌, List, [], ◌∷◌, ◌++◌, map, length, filter, find, insert, inl, inr, All, Contains, Option, Some, if◌then◌else◌, get_or, refl, sym, ap, ◌∙◌, arith}
use Rattle.std.specs.List.{list_any, last_or}
use Rattle.std.specs.List.Sorted.{IsStrictlyIncreasing}
use Rattle.std.proofs.lemmas.Bool.{cases_eq, eqb-true, eq-eqb, ne_eqb}
use Rattle.std.proofs.lemmas.List.{get_or_default, append-nil, get_or-map, length-map, length-append, get_or_append_left}
use Rattle.std.proofs.lemmas.List.Elements.{All-head, All-tail, filter-append}
use Rattle.std.proofs.lemmas.List.Folds.{Any-from_list_any, list_any_at}
use Rattle.location_terms.proofs.Rising.{place_of, found_by_key, one_place}

module _ {X : Type 0} (p : X → Bool) where
  -- what passes the test is changed, and changed back
  pub map_back : (f g : X → X) (xs : List X) → All (λ x. p x ≡ true → (p (f x) ≡ true) × (g (f x) ≡ x)) xs → map (λ x. if p x then g x else x) (map (λ x. if p x then f x else x) xs) ≡ xs
  map_back f g [] all = refl
  map_back f g (x ∷ xs) all = λ i. one (p x) refl i ∷ map_back f g xs (All-tail (λ y. p y ≡ true → (p (f y) ≡ true) × (g (f y) ≡ y)) x xs all) i
    where
      one : (b : Bool) → p x ≡ b → cond (p (cond (p x) (f x) x)) (g (cond (p x) (f x) x)) (cond (p x) (f x) x) ≡ x
      one true e =
          let h = All-head (λ y. p y ≡ true → (p (f y) ≡ true) × (g (f y) ≡ y)) x xs all e in
          ap (λ b. cond (p (cond b (f x) x)) (g (cond b (f x) x)) (cond b (f x) x)) e ∙ ap (λ b. cond b (g (f x)) (f x)) h.0 ∙ h.1
      one false e = ap (λ b. cond (p (cond b (f x) x)) (g (cond b (f x) x)) (cond b (f x) x)) e ∙ ap (λ b. cond b (g x) x) e

  -- and it is there as before
  pub any_kept : (f : X → X) (xs : List X) → ((x : X) → p x ≡ true → p (f x) ≡ true) → list_any p (map (λ x. if p x then f x else x) xs) ≡ list_any p xs
  any_kept f [] keeps = refl
  any_kept f (x ∷ xs) keeps = λ i. one (p x) refl i || any_kept f xs keeps i
    where
      one : (b : Bool) → p x ≡ b → p (cond (p x) (f x) x) ≡ p x
      one true e = ap (λ b. p (cond b (f x) x)) e ∙ keeps x e ∙ sym e
      one false e = ap (λ b. p (cond b (f x) x)) e

  filter_none : (xs : List X) → All (λ x. p x ≡ false) xs → filter (λ x. not (p x)) xs ≡ xs
  filter_none [] all = refl
  filter_none (x ∷ xs) all =
      ap (λ b. cond (not b) (x ∷ filter (λ x. not (p x)) xs) (filter (λ x. not (p x)) xs)) (All-head (λ x. p x ≡ false) x xs all)
      ∙ ap (λ ys. x ∷ ys) (filter_none xs (All-tail (λ x. p x ≡ false) x xs all))

  -- one that came last goes
  pub filter_last : (xs : List X) (y : X) → All (λ x. p x ≡ false) xs → p y ≡ true → filter (λ x. not (p x)) (xs ++ y ∷ []) ≡ xs
  filter_last xs y all is =
      filter-append (λ x. not (p x)) xs (y ∷ [])
      ∙ ap (λ ys. ys ++ cond (not (p y)) (y ∷ []) []) (filter_none xs all)
      ∙ ap (λ b. xs ++ cond (not b) (y ∷ []) []) is
      ∙ append-nil xs

  -- one that alone passes the test goes, and comes back at its place
  pub filter_one : (xs : List X) (i : ℕ) (d : X) → i < length xs → p (get_or xs i d) ≡ true → ((k : ℕ) → k < length xs → k ≢ i → p (get_or xs k d) ≡ false) → insert (filter (λ x. not (p x)) xs) i (get_or xs i d) ≡ xs
  filter_one [] i d below is others = absurd (omega arith)
  filter_one (x ∷ xs) zero d below is others =
      ap (λ b. x ∷ cond (not b) (x ∷ filter (λ x. not (p x)) xs) (filter (λ x. not (p x)) xs)) is
      ∙ ap (λ ys. x ∷ ys) (filter_none xs (λ k e inside. ap p (get_or_default xs k e d inside) ∙ others (suc k) (omega arith) (λ same. omega arith)))
  filter_one (x ∷ xs) (suc i) d below is others =
      ap (λ b. insert (cond (not b) (x ∷ filter (λ x. not (p x)) xs) (filter (λ x. not (p x)) xs)) (suc i) (get_or xs i d)) (others 0 (omega arith) (λ same. omega arith))
      ∙ ap (λ ys. x ∷ ys) (filter_one xs i d (omega arith) is (λ k inside other. others (suc k) (omega arith) (λ same. other (omega arith))))

  pub length-filter_one : (xs : List X) (i : ℕ) (d : X) → i < length xs → p (get_or xs i d) ≡ true → ((k : ℕ) → k < length xs → k ≢ i → p (get_or xs k d) ≡ false) → length (filter (λ x. not (p x)) xs) + 1 ≡ length xs
  length-filter_one [] i d below is others = absurd (omega arith)
  length-filter_one (x ∷ xs) zero d below is others =
      ap (λ b. length (cond (not b) (x ∷ filter (λ x. not (p x)) xs) (filter (λ x. not (p x)) xs)) + 1) is
      ∙ ap (λ ys. length ys + 1) (filter_none xs (λ k e inside. ap p (get_or_default xs k e d inside) ∙ others (suc k) (omega arith) (λ same. omega arith)))
      ∙ omega arith
  length-filter_one (x ∷ xs) (suc i) d below is others =
      let rest = length-filter_one xs i d (omega arith) is (λ k inside other. others (suc k) (omega arith) (λ same. other (omega arith))) in
      ap (λ b. length (cond (not b) (x ∷ filter (λ x. not (p x)) xs) (filter (λ x. not (p x)) xs)) + 1) (others 0 (omega arith) (λ same. omega arith))
      ∙ omega (arith, rest)

get_or-append-seam : {A : Type 0} (xs : List A) (y d : A) → get_or (xs ++ y ∷ []) (length xs) d ≡ y
get_or-append-seam [] y d = refl
get_or-append-seam (x ∷ xs) y d = get_or-append-seam xs y d

pub last_or-append : {A : Type 0} (o : Option A) (xs : List A) (y : A) → last_or o (xs ++ y ∷ []) ≡ Some y
last_or-append o [] y = refl
last_or-append o (x ∷ xs) y = last_or-append (Some x) xs y

-- one above numbers that rise, behind them
pub rises : (xs : List ℕ) (y : ℕ) → IsStrictlyIncreasing xs → All (λ x. x < y) xs → IsStrictlyIncreasing (xs ++ y ∷ [])
rises xs y rise below = λ k within.
    let count : length (xs ++ y ∷ []) ≡ length xs + 1 = length-append xs (y ∷ []) in
    let inside : k < length xs = omega (arith, within, count) in
    let here : get_or (xs ++ y ∷ []) k 0 ≡ get_or xs k 0 = get_or_append_left xs (y ∷ []) 0 k inside in
    elim (cases_eq (k + 1) (length xs)) [
      | inl last ↦
          let next : get_or (xs ++ y ∷ []) (k + 1) 0 ≡ y = ap (λ n. get_or (xs ++ y ∷ []) n 0) last ∙ get_or-append-seam xs y 0 in
          let less = below k 0 inside in omega (arith, here, next, less)
      | inr other ↦
          let next : get_or (xs ++ y ∷ []) (k + 1) 0 ≡ get_or xs (k + 1) 0 = get_or_append_left xs (y ∷ []) 0 (k + 1) (omega (arith, within, count, other)) in
          let less = rise k (omega (arith, within, count, other)) in omega (arith, here, next, less)
    ]

-- elements with keys that rise
module _ {X : Type 0} (key : X → ℕ) (xs : List X) (d : X) where
  -- one whose key isn't missing has a place
  pub there : (s : ℕ) → not (list_any (λ x. key x == s) xs) ≡ false → (i : ℕ) × (i < length xs) × (key (get_or xs i d) ≡ s)
  there s missing =
      let any = Any-from_list_any (λ x. key x == s) xs (any_of (list_any (λ x. key x == s) xs) missing) in
      (any.0, any.2, ap key (get_or_default xs any.0 d any.1 any.2 ∙ any.3) ∙ eqb-true (key any.1) s any.4)
    where
      any_of : (b : Bool) → not b ≡ false → b ≡ true
      any_of true e = refl
      any_of false e = cc

  -- a key is missing just where it isn't among the keys
  pub any_key : (s : ℕ) → Contains (map key xs) s → list_any (λ x. key x == s) xs ≡ true
  any_key s among = let at = place_of key xs d s among in list_any_at (λ x. key x == s) xs at.0 d at.1 (eq-eqb (key (get_or xs at.0 d)) s at.2)

  pub key_among : (s : ℕ) → list_any (λ x. key x == s) xs ≡ true → Contains (map key xs) s
  key_among s any =
      let at = there s (ap not any) in
      (at.0, omega (arith, at.1, length-map xs key), get_or-map key xs at.0 d s at.1 ∙ at.2)

  module _ (rise : IsStrictlyIncreasing (map key xs)) where
    pub found : (s k : ℕ) → k < length xs → key (get_or xs k d) ≡ s → find (λ x. key x == s) xs ≡ Some (get_or xs k d)
    found s k below same = ap (λ t. find (λ x. key x == t) xs) (sym same) ∙ found_by_key key xs d rise k below

    -- the others have other keys
    pub others : (s i : ℕ) → i < length xs → key (get_or xs i d) ≡ s → (k : ℕ) → k < length xs → k ≢ i → (key (get_or xs k d) == s) ≡ false
    others s i below same k inside other = ne_eqb (key (get_or xs k d)) s (λ e. other (one_place key xs d rise k i inside below (e ∙ sym same)))
