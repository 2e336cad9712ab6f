-- A list with one element more at a place, and the places of the others in it.
use Rattle.std.proofs.Common.{◌≡◌, ◌≢◌, ℕ, ◌+◌, ◌-◌, ◌<◌, ◌≤◌, if◌then◌else◌, inl, inr, Bool, List, insert, remove, length, get_or, sym, ap, ◌∙◌, arith}
use Rattle.std.proofs.lemmas.Bool.{cases_lt, cases_order, lt-ltb, le-ltb}
use Rattle.std.proofs.lemmas.List.Edits.{length-insert, length-remove, get_or-insert_below, get_or-insert_above, get_or-remove_below, get_or-remove_above}
use Rattle.std.proofs.lemmas.List.{ext_get_or}
use Rattle.std.proofs.lemmas.List.Kept.{AllPairs-from_increasing}
use Rattle.std.proofs.lemmas.List.Quantifiers.{all_pairs_remove}
use Rattle.std.specs.List.Sorted.{IsStrictlyIncreasing}
use Rattle.lane_order.specs.Listed.{place_up, place_down}

module _ (place : ℕ) where
  pub up-before : (k : ℕ) → k < place → place_up place k ≡ k
  up-before k below = ap (λ (b : Bool). if b then k else k + 1) (lt-ltb k place below)

  pub up-behind : (k : ℕ) → place ≤ k → place_up place k ≡ k + 1
  up-behind k above = ap (λ (b : Bool). if b then k else k + 1) (le-ltb k place above)

  pub down-before : (k : ℕ) → k ≤ place → place_down place k ≡ k
  down-before k below = ap (λ (b : Bool). if b then k - 1 else k) (le-ltb place k below)

  pub down-behind : (k : ℕ) → place < k → place_down place k ≡ k - 1
  down-behind k above = ap (λ (b : Bool). if b then k - 1 else k) (lt-ltb place k above)

  pub up-apart : (k : ℕ) → place_up place k ≢ place
  up-apart k same =
      elim (cases_lt k place) [ inl below ↦ absurd (omega (arith, below, up-before k below, same)) | inr above ↦ absurd (omega (arith, above, up-behind k above, same)) ]

  pub up-within : (k n : ℕ) → k < n → place_up place k < n + 1
  up-within k n within =
      elim (cases_lt k place) [ inl below ↦ omega (arith, within, up-before k below) | inr above ↦ omega (arith, within, up-behind k above) ]

  pub within-up : (k n : ℕ) → place ≤ n → place_up place k < n + 1 → k < n
  within-up k n inside within =
      elim (cases_lt k place) [ inl below ↦ omega (arith, below, inside) | inr above ↦ omega (arith, within, up-behind k above) ]

  pub up-rises : (a b : ℕ) → a < b → place_up place a < place_up place b
  up-rises a b less =
      elim (cases_lt a place) [
        | inl below ↦ elim (cases_lt b place) [ inl early ↦ omega (arith, less, up-before a below, up-before b early) | inr late ↦ omega (arith, less, up-before a below, up-behind b late) ]
        | inr above ↦ omega (arith, less, up-behind a above, up-behind b (omega (arith, above, less)))
      ]

  pub up-one : (a b : ℕ) → place_up place a ≡ place_up place b → a ≡ b
  up-one a b same =
      elim (cases_order a b) [
        | inl one ↦ one
        | inr other ↦ elim other [ inl less ↦ absurd (omega (arith, same, up-rises a b less)) | inr more ↦ absurd (omega (arith, same, up-rises b a more)) ]
      ]

  -- each place but the new one is that of an element that was there
  pub up-down : (k : ℕ) → k ≢ place → place_up place (place_down place k) ≡ k
  up-down k apart =
      elim (cases_order k place) [
        | inl same ↦ absurd (apart same)
        | inr other ↦ elim other [
          | inl below ↦ ap (place_up place) (down-before k (omega (arith, below))) ∙ up-before k below
          | inr above ↦ let one : (k - 1) + 1 ≡ k = omega (arith, above) in ap (place_up place) (down-behind k above) ∙ up-behind (k - 1) (omega (arith, above)) ∙ one
        ]
      ]

  pub down-up : (k : ℕ) → place_down place (place_up place k) ≡ k
  down-up k = up-one (place_down place (place_up place k)) k (up-down (place_up place k) (up-apart k))

  pub down-within : (k n : ℕ) → place ≤ n → k < n + 1 → k ≢ place → place_down place k < n
  down-within k n inside within apart = within-up (place_down place k) n inside (omega (arith, within, up-down k apart))

  module _ {X : Type 0} (xs : List X) (d : X) where
    pub get_or-insert_up : (y : X) (k : ℕ) → place ≤ length xs → get_or (insert xs place y) (place_up place k) d ≡ get_or xs k d
    get_or-insert_up y k inside =
        elim (cases_lt k place) [
          | inl below ↦ ap (λ m. get_or (insert xs place y) m d) (up-before k below) ∙ get_or-insert_below xs place y d k below inside
          | inr above ↦ ap (λ m. get_or (insert xs place y) m d) (up-behind k above) ∙ get_or-insert_above xs place y d k above inside
        ]

    pub get_or-remove_up : (k : ℕ) → place < length xs → get_or (remove xs place) k d ≡ get_or xs (place_up place k) d
    get_or-remove_up k inside =
        elim (cases_lt k place) [
          | inl below ↦ get_or-remove_below xs place d k below inside ∙ ap (λ m. get_or xs m d) (sym (up-before k below))
          | inr above ↦ get_or-remove_above xs place d k above inside ∙ ap (λ m. get_or xs m d) (sym (up-behind k above))
        ]

pub remove-insert : {X : Type 0} (xs : List X) (place : ℕ) (y : X) → place ≤ length xs → remove (insert xs place y) place ≡ xs
remove-insert xs place y inside =
    let longer : length (insert xs place y) ≡ length xs + 1 = length-insert xs place y inside in
    let there : place < length (insert xs place y) = omega (arith, longer, inside) in
    ext_get_or y (remove (insert xs place y) place) xs (omega (arith, longer, length-remove (insert xs place y) place there))
    (λ k b. get_or-remove_up place (insert xs place y) y k there ∙ get_or-insert_up place xs y y k inside)

pub IsStrictlyIncreasing-remove : (xs : List ℕ) (place : ℕ) → place < length xs → IsStrictlyIncreasing xs → IsStrictlyIncreasing (remove xs place)
IsStrictlyIncreasing-remove xs place there rise k within = all_pairs_remove (λ (a b : ℕ). a < b) xs place there (AllPairs-from_increasing xs rise) k (k + 1) 0 (omega arith) within
