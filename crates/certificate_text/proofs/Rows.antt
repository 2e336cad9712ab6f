-- Rows of words and numbers that are written one number more at a time.
use Rattle.std.proofs.Common.{◌≡◌, ◌≢◌, ℕ, zero, suc, ◌+◌, ◌<◌, ◌≤◌, List, [], ◌∷◌, ◌++◌, length, get_or, take, map, min, refl, ap, sym, ◌∙◌, arith, append_assoc, append-nil}
use Rattle.std.specs.Prelude.{ℤ, pos, flat_map, Result, Ok, Err, OnOk, is_ok, cond}
use Rattle.std.proofs.lemmas.List.{take_all, take_more, length-take}
use Rattle.std.proofs.lemmas.Grind.{flat_map-append}
use Rattle.number_words.specs.Line.{spaced}
use Rattle.number_words.specs.Number.{number_text}
use Rattle.certificate_lines.specs.Text.{counts_line, priced}
use Rattle.certificate_text.specs.Written.{counted, numbered}

-- what stands in a text once more of it was added
pub once_added : {T E : Type 0} {new whole : List ℕ} (r : Result T E) (text more : List ℕ) → new ≡ cond (is_ok r) (text ++ more) text → text ++ more ≡ whole → OnOk r (new ≡ whole)
once_added (Ok x) text more is same = is ∙ same
once_added (Err e) text more is same = tt

-- a row is its first word, and behind it each word with a space before it
row_words : {X : Type 0} (f : X → List ℕ) (word : List ℕ) (xs : List X) → spaced (word ∷ map f xs) ≡ word ++ flat_map (λ x. 32 ∷ f x) xs
row_words f word [] = sym (append-nil word)
row_words f word (x ∷ xs) = ap (λ rest. word ++ 32 ∷ rest) (row_words f (f x) xs)

row_ends : {X : Type 0} (f : X → List ℕ) (old word text : List ℕ) (xs ys : List X)
    → text ≡ (old ++ word) ++ flat_map (λ x. 32 ∷ f x) ys → ys ≡ xs
    → text ++ 10 ∷ [] ≡ (old ++ spaced (word ∷ map f xs)) ++ 10 ∷ []
row_ends f old word text xs ys is same =
    ap (λ t. t ++ 10 ∷ [])
    (is
    ∙ ap (λ zs. (old ++ word) ++ flat_map (λ x. 32 ∷ f x) zs) same
    ∙ append_assoc old word (flat_map (λ x. 32 ∷ f x) xs)
    ∙ ap (λ row. old ++ row) (sym (row_words f word xs)))

-- the row is whole once each of its numbers is there and its line ends
module _ {T E : Type 0} {new : List ℕ} (r : Result T E) (old word text : List ℕ) (added : new ≡ cond (is_ok r) (text ++ 10 ∷ []) text) where
  pub counts_added : (ns ms : List ℕ) → text ≡ (old ++ word) ++ counted ms → ms ≡ ns → OnOk r (new ≡ (old ++ counts_line word ns) ++ 10 ∷ [])
  counts_added ns ms is same = once_added r text (10 ∷ []) added (row_ends (λ n. number_text (pos n)) old word text ns ms is same)

  pub numbers_added : (zs ys : List ℤ) → text ≡ (old ++ word) ++ numbered ys → ys ≡ zs → OnOk r (new ≡ (old ++ spaced (word ∷ map number_text zs)) ++ 10 ∷ [])
  numbers_added zs ys is same = once_added r text (10 ∷ []) added (row_ends number_text old word text zs ys is same)

priced-none : (ss : List ℕ) → priced ss [] ≡ []
priced-none [] = refl
priced-none (s ∷ ss) = refl

priced-append : (ss ps ts qs : List ℕ) → length ss ≡ length ps → priced (ss ++ ts) (ps ++ qs) ≡ priced ss ps ++ priced ts qs
priced-append [] [] ts qs same = refl
priced-append [] (p ∷ ps) ts qs same = absurd (omega arith)
priced-append (s ∷ ss) [] ts qs same = absurd (omega arith)
priced-append (s ∷ ss) (zero ∷ ps) ts qs same = priced-append ss ps ts qs (omega arith)
priced-append (s ∷ ss) (suc p ∷ ps) ts qs same = ap (λ rest. s ∷ suc p ∷ rest) (priced-append ss ps ts qs (omega arith))

take-none : (n : ℕ) → take {A = ℕ} n [] ≡ []
take-none n = take_all n [] (omega arith)

pub priced-all : (ss ps : List ℕ) (n : ℕ) → min (length ss) (length ps) ≤ n → priced (take n ss) (take n ps) ≡ priced ss ps
priced-all [] ps n h = rw (take-none n) refl
priced-all (s ∷ ss) [] n h = rw (take-none n) (priced-none (take n (s ∷ ss)))
priced-all (s ∷ ss) (p ∷ ps) zero h = absurd (omega arith)
priced-all (s ∷ ss) (zero ∷ ps) (suc n) h = priced-all ss ps n (omega arith)
priced-all (s ∷ ss) (suc p ∷ ps) (suc n) h = ap (λ rest. s ∷ suc p ∷ rest) (priced-all ss ps n (omega arith))

-- the row of prices, with the site at one more place
module _ (ss ps : List ℕ) (k : ℕ) (site : k < length ss) (price : k < length ps) where
  priced-more : priced (take (k + 1) ss) (take (k + 1) ps) ≡ priced (take k ss) (take k ps) ++ priced (get_or ss k 0 ∷ []) (get_or ps k 0 ∷ [])
  priced-more =
      rw (take_more ss k 0 site, take_more ps k 0 price)
      (priced-append (take k ss) (take k ps) (get_or ss k 0 ∷ []) (get_or ps k 0 ∷ []) (omega (arith, length-take k ss, length-take k ps)))

  pub price_next : (base text new : List ℕ) (s p : ℕ) → s ≡ get_or ss k 0 → p ≡ get_or ps k 0
      → text ≡ base ++ counted (priced (take k ss) (take k ps))
      → new ≡ text ++ counted (priced (s ∷ []) (p ∷ []))
      → new ≡ base ++ counted (priced (take (k + 1) ss) (take (k + 1) ps))
  price_next base text new s p is_site is_price is next =
      let before : List ℕ = priced (take k ss) (take k ps) in
      let one : List ℕ = priced (s ∷ []) (p ∷ []) in
      next
      ∙ ap (λ t. t ++ counted one) is
      ∙ append_assoc base (counted before) (counted one)
      ∙ ap (λ row. base ++ row) (sym (flat_map-append (λ n. 32 ∷ number_text (pos n)) before one))
      ∙ ap (λ row. base ++ counted row)
      (ap (λ x. before ++ priced (x ∷ []) (p ∷ [])) is_site
      ∙ ap (λ x. before ++ priced (get_or ss k 0 ∷ []) (x ∷ [])) is_price
      ∙ sym priced-more)

-- the row of one price: it is empty where the price is 0
pub no_price : (s p : ℕ) → p ≡ 0 → counted (priced (s ∷ []) (p ∷ [])) ≡ []
no_price s zero none = refl
no_price s (suc p) none = absurd (omega arith)

pub one_price : (s p : ℕ) → p ≢ 0 → counted (priced (s ∷ []) (p ∷ [])) ≡ (32 ∷ number_text (pos s)) ++ 32 ∷ number_text (pos p)
one_price s zero some = absurd (some refl)
one_price s (suc p) some = ap (λ row. (32 ∷ number_text (pos s)) ++ row) (append-nil (32 ∷ number_text (pos (suc p))))
