-- Lines by place, one more behind the others.
use Rattle.std.proofs.Common.{◌≡◌, ℕ, ◌+◌, List, ◌++◌, ◌∙◌, ap, sym, arith, flat_map, ℤ, ◌^◌}
use Rattle.std.specs.List.{range_with_len}
use Rattle.std.proofs.lemmas.List.{flat_map_more}
use Rattle.std.proofs.lemmas.Int.{ints}
use mir.Syntax.{w128}
use mir.Val.{to_z, of_z}
use Rattle.location_terms.proofs.Places.{places_more}
use Rattle.dual_value.proofs.Sizes.{abs_from, kept}
use Rattle.report.specs.DualsText.{amount_line, FitsU64}

-- the line at place k behind those at the places before it
one_line_more : (line : ℕ → List ℕ) (before : List ℕ) (k : ℕ) → (before ++ flat_map line (range_with_len 0 k)) ++ line k ≡ before ++ flat_map line (range_with_len 0 (k + 1))
one_line_more line before k =
    flat_map_more line before (range_with_len 0 k) k ∙ ap (λ (places : List ℕ). before ++ flat_map line places) (sym (places_more k))

-- the lines up to place k, where what was put behind those before it is the line at k
pub lines_more : (line : ℕ → List ℕ) (before old new put : List ℕ) (k : ℕ) → old ≡ before ++ flat_map line (range_with_len 0 k) → new ≡ old ++ put → put ≡ line k
    → new ≡ before ++ flat_map line (range_with_len 0 (k + 1))
lines_more line before old new put k lines more this =
    more ∙ ap (λ (front : List ℕ). front ++ put) lines ∙ ap (λ (last : List ℕ). (before ++ flat_map line (range_with_len 0 k)) ++ last) this ∙ one_line_more line before k

-- a number that is printed is what its bits give
printed_whole : (z : ℤ) → FitsU64 z → to_z w128 (of_z w128 z) ≡ z
printed_whole z fits = let low = fits.0 in let high = fits.1 in kept z (2 ^ 64) (abs_from z (2 ^ 64) (omega (arith, ints)) (omega (arith, ints))) (omega arith)

-- a line of an id and of the bits of a number is the line of an equal id and an equal number that can be printed
pub same_line : (word : List ℕ) (id id' : ℕ) (z z' : ℤ) → id ≡ id' → z ≡ z' → FitsU64 z' → amount_line word id (to_z w128 (of_z w128 z)) ≡ amount_line word id' z'
same_line word id id' z z' ids amounts fits =
    ap (λ n. amount_line word n (to_z w128 (of_z w128 z))) ids ∙ ap (λ x. amount_line word id' (to_z w128 (of_z w128 x))) amounts ∙ ap (amount_line word id') (printed_whole z' fits)
