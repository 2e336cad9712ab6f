-- Rows that follow one after another, each as that of the next leaf that is kept.
use Rattle.std.proofs.Common.{◌≡◌, ℕ, ◌<◌, ◌≤◌, ◌+◌, zero, suc, refl, ap, sym, ◌∙◌, arith, Bool, true, false, cond, List, [], ◌∷◌, ◌++◌, map, length, length-append, get_or, take}
use Rattle.std.specs.Prelude.{filter, slice_set}
use Rattle.std.proofs.lemmas.List.{map-append, append-nil, take_more_set, get_or-set_other}
use Rattle.std.proofs.Math.Seq.{map-set_same}
use Rattle.std.proofs.lemmas.List.Elements.{filter_more}
use Rattle.leaf_book.specs.Sums.{LeafSums}
use Rattle.leaf_book.specs.Rows.{Held}

-- an element that passes a test stands behind those before it that do
pub kept_at : {A : Type 0} (p : A → Bool) (xs : List A) (k : ℕ) (d : A) → k < length xs → p (get_or xs k d) ≡ true → get_or (filter p xs) (length (filter p (take k xs))) d ≡ get_or xs k d
kept_at p [] k d b h = absurd (omega (arith, b))
kept_at p (x ∷ xs) zero d b h = ap (λ c. get_or (cond c (x ∷ filter p xs) (filter p xs)) 0 d) h
kept_at p (x ∷ xs) (suc k) d b h = along (p x) (kept_at p xs k d (omega (arith, b)) h)
  where
    along : (c : Bool) → get_or (filter p xs) (length (filter p (take k xs))) d ≡ get_or xs k d → get_or (cond c (x ∷ filter p xs) (filter p xs)) (length (cond c (x ∷ filter p (take k xs)) (filter p (take k xs)))) d ≡ get_or xs k d
    along true e = e
    along false e = e

pub kept_within : {A : Type 0} (p : A → Bool) (xs : List A) (k : ℕ) (d : A) → k < length xs → p (get_or xs k d) ≡ true → length (filter p (take k xs)) < length (filter p xs)
kept_within p [] k d b h = absurd (omega (arith, b))
kept_within p (x ∷ xs) zero d b h =
    let one : length (filter p (x ∷ xs)) ≡ suc (length (filter p xs)) = ap (λ c. length (cond c (x ∷ filter p xs) (filter p xs))) h in
    omega (arith, one)
kept_within p (x ∷ xs) (suc k) d b h = along (p x) (kept_within p xs k d (omega (arith, b)) h)
  where
    along : (c : Bool) → length (filter p (take k xs)) < length (filter p xs) → length (cond c (x ∷ filter p (take k xs)) (filter p (take k xs))) < length (cond c (x ∷ filter p xs) (filter p xs))
    along true less = omega (arith, less)
    along false less = less

-- the first k leaves were gone through, and the rows of those that are kept stand first
pub record AreFollowed {A : Type 0} (keep : A → Bool) (sums : A → LeafSums) (leaves : List A) (k : ℕ) (old rows : List Held) (used : ℕ) : Type 0 where
  pub used_are : used ≡ length (filter keep (take k leaves))
  pub done : map (λ r. r.sums) (take used rows) ≡ map sums (filter keep (take k leaves))
  pub rest : (j : ℕ) (r : Held) → used ≤ j → get_or rows j r ≡ get_or old j r
  pub room : map (λ r. r.room) rows ≡ map (λ r. r.room) old

module _ {A : Type 0} (keep : A → Bool) (sums : A → LeafSums) (leaves : List A) (old : List Held) where
  pub followed_none : AreFollowed keep sums leaves 0 old old 0
  followed_none = record { used_are = refl; done = refl; rest = λ j r h. refl; room = refl }

  module _ (k : ℕ) (l : A) (rows : List Held) (used : ℕ) (inside : k < length leaves) (here : AreFollowed keep sums leaves k old rows used) where
    pub followed_passed : keep (get_or leaves k l) ≡ false → AreFollowed keep sums leaves (k + 1) old rows used
    followed_passed gone =
        let same : filter keep (take (k + 1) leaves) ≡ filter keep (take k leaves) =
        filter_more keep leaves k l inside ∙ ap (λ b. filter keep (take k leaves) ++ cond b (get_or leaves k l ∷ []) []) gone ∙ append-nil (filter keep (take k leaves)) in
        record { used_are = here.used_are ∙ ap length (sym same); done = here.done ∙ ap (map sums) (sym same); rest = here.rest; room = here.room }

    pub followed_kept : (row : Held) → keep (get_or leaves k l) ≡ true → used < length rows → row.sums ≡ sums (get_or leaves k l) → row.room ≡ (get_or rows used row).room → AreFollowed keep sums leaves (k + 1) old (slice_set rows used row) (used + 1)
    followed_kept row kept within is room =
        let more : filter keep (take (k + 1) leaves) ≡ filter keep (take k leaves) ++ get_or leaves k l ∷ [] =
        filter_more keep leaves k l inside ∙ ap (λ b. filter keep (take k leaves) ++ cond b (get_or leaves k l ∷ []) []) kept in
        record {
          used_are = omega (arith, here.used_are, ap length more, length-append (filter keep (take k leaves)) (get_or leaves k l ∷ []));
          done =
              ap (map (λ r. r.sums)) (take_more_set rows used row within)
              ∙ map-append (λ r. r.sums) (take used rows) (row ∷ [])
              ∙ (λ x. here.done x ++ is x ∷ [])
              ∙ sym (ap (map sums) more ∙ map-append sums (filter keep (take k leaves)) (get_or leaves k l ∷ []));
          rest = λ j r h. get_or-set_other rows used j row r (omega (arith, h)) ∙ here.rest j r (omega (arith, h));
          room = map-set_same (λ r. r.room) rows used row row room ∙ here.room;
        }
