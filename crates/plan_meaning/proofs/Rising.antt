-- Lists of numbers that rise strictly.
use Rattle.std.proofs.Common.{◌≡◌, ℕ, ◌+◌, ◌-◌, ◌<◌, ◌≤◌, ◌↔◌, List, map, length, get_or, IsTrue, Contains, Result, Ok, Err, is_ok, refl, ◌∙◌, arith}
use Rattle.std.specs.List.Sorted.{IsStrictlyIncreasing, IsBinarySearchResult}
use Rattle.std.specs.Ordering.{nat_cmp}
use Rattle.std.proofs.lemmas.List.{get_or_default, get_or-map}
use Rattle.std.proofs.lemmas.List.Kept.{AllPairs-from_increasing}
use Rattle.std.proofs.lemmas.List.Sorted.{searched}

-- elements at rising places are in order
pub rising_order : (xs : List ℕ) → IsStrictlyIncreasing xs → (i j : ℕ) → i ≤ j → j < length xs → get_or xs i 0 ≤ get_or xs j 0
rising_order xs up i j le lt = grind (arith, AllPairs-from_increasing xs up i j 0)

-- a binary search finds just what the list contains
pub search_finds : (xs : List ℕ) (x : ℕ) (r : Result ℕ ℕ) → IsStrictlyIncreasing xs → IsBinarySearchResult (λ y. nat_cmp y x) xs r → IsTrue (is_ok r) ↔ Contains xs x
search_finds xs x (Ok i) up h = let s = searched xs x (Ok i) h (rising_order xs up) in (λ _. (i, s.0, get_or_default xs i x 0 s.0 ∙ s.1), λ _. refl)
search_finds xs x (Err i) up h =
    let s = searched xs x (Err i) h (rising_order xs up) in
    (λ e. cc, λ c. let at : get_or xs c.0 0 ≡ x = get_or_default xs c.0 0 x c.1 ∙ c.2 in absurd (grind (arith, s.1 c.0, s.2 c.0)))

-- one more step up
pub rising_more : (xs : List ℕ) (k : ℕ) → 1 ≤ k → ((j : ℕ) → j + 1 < k → get_or xs j 0 < get_or xs (j + 1) 0) → get_or xs (k - 1) 0 < get_or xs k 0 → (j : ℕ) → j + 1 < k + 1 → get_or xs j 0 < get_or xs (j + 1) 0
rising_more xs k one before step j lt = let last : j + 1 ≡ k → k - 1 ≡ j = λ e. omega arith in grind (arith, before j)

-- a customer's id is read from the pair
pub get_or-served : (xs : List (ℕ × ℕ)) (k : ℕ) (d : ℕ × ℕ) → k < length xs → get_or (map (λ v. v.0) xs) k 0 ≡ (get_or xs k d).0
get_or-served xs k d lt = get_or-map (λ v. v.0) xs k d 0 lt
