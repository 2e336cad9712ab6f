-- A row that gets more room, among rows.
use Rattle.std.proofs.Common.{◌≡◌, ℕ, ◌<◌, ◌≤◌, ◌+◌, ap, sym, subst, ◌∙◌, inl, inr, arith, List, map, length, get_or, take}
use Rattle.std.specs.Prelude.{All, slice_set}
use Rattle.std.specs.List.{take-map}
use Rattle.std.proofs.Math.Seq.{map-set_same}
use Rattle.std.proofs.lemmas.Bool.{cases_eq}
use Rattle.std.proofs.lemmas.List.{get_or-set_same, get_or-set_other}
use Rattle.std.proofs.lemmas.List.Elements.{All-set}
use Rattle.leaf_book.specs.Sums.{LeafSums}
use Rattle.leaf_book.specs.Rows.{Held}

module _ (old rows : List Held) (k : ℕ) (e row : Held) (inside : k < length rows) where
  pub same_widened : row.sums ≡ (get_or rows k e).sums → map (λ r. r.sums) rows ≡ map (λ r. r.sums) old → map (λ r. r.sums) (slice_set rows k row) ≡ map (λ r. r.sums) old
  same_widened sums same = map-set_same (λ r. r.sums) rows k row e sums ∙ same

  pub grown_widened : (get_or rows k e).room ≤ row.room → ((n : ℕ) → All (λ r. n ≤ r.room) old → All (λ r. n ≤ r.room) rows) → (n : ℕ) → All (λ r. n ≤ r.room) old → All (λ r. n ≤ r.room) (slice_set rows k row)
  grown_widened room grown n all =
      let had = grown n all k e inside in
      All-set (λ r. n ≤ r.room) rows k row (omega (arith, had, room)) (grown n all)

  pub room_widened : (sites : ℕ) → sites ≤ row.room → ((j : ℕ) (d : Held) → j < k → sites ≤ (get_or rows j d).room) → (j : ℕ) (d : Held) → j < k + 1 → sites ≤ (get_or (slice_set rows k row) j d).room
  room_widened sites room before j d less =
      elim (cases_eq j k) [
        | inl same ↦ subst (λ (r : Held). sites ≤ r.room) (sym (ap (λ i. get_or (slice_set rows k row) i d) same ∙ get_or-set_same rows k row d inside)) room
        | inr other ↦ subst (λ (r : Held). sites ≤ r.room) (sym (get_or-set_other rows k j row d other)) (before j d (omega (arith, less, other)))
      ]

-- rows in use keep their sums
pub sums_stay : (used : ℕ) (old new : List Held) → map (λ r. r.sums) new ≡ map (λ r. r.sums) old → map (λ r. r.sums) (take used new) ≡ map (λ r. r.sums) (take used old)
sums_stay used old new same = sym (take-map (λ r. r.sums) used new) ∙ ap (λ (ss : List LeafSums). take used ss) same ∙ take-map (λ r. r.sums) used old
