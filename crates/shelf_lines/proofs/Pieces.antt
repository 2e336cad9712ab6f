-- A file that is read in pieces, up to a limit.
use Rattle.std.proofs.Common.{◌≡◌, ℕ, ◌+◌, ◌-◌, ◌<◌, ◌≤◌, List, [], ◌++◌, length, take, drop, sym, ap, ◌∙◌, subst, arith}
use Rattle.std.proofs.lemmas.List.{take-append-le, take-append-drop, take-take, drop-take, drop-drop, drop_all, length-take}
use Rattle.shelf_port.specs.Files.{IsPiece}
use Rattle.shelf_lines.specs.Rest.{LineState, rest_of, IsAtEnd}

-- what lies within the limit behind a place is the next n bytes there, and what lies within it behind those
piece_and_rest : (at n limit : ℕ) (file : List ℕ) → at + n ≤ limit → take n (drop at file) ++ drop (at + n) (take limit file) ≡ drop at (take limit file)
piece_and_rest at n limit file within =
    let m : ℕ = limit - at in
    let all : at + m ≡ limit = omega arith in
    let few : n ≤ m = omega arith in
    let behind : drop at (take limit file) ≡ take m (drop at file) = subst (λ k. drop at (take k file) ≡ take m (drop at file)) all (drop-take at m file) in
    ap (λ front. front ++ drop (at + n) (take limit file)) (sym (take-take n m (drop at file) few) ∙ ap (take n) (sym behind))
    ∙ ap (λ rest. take n (drop at (take limit file)) ++ rest) (sym (drop-drop n at (take limit file)))
    ∙ take-append-drop n (drop at (take limit file))

-- nothing of a piece is left, whatever stands in it
pub none_ahead : (from to : ℕ) (piece : List ℕ) → to ≤ from → drop from (take to piece) ≡ []
none_ahead from to piece spent = drop_all from (take to piece) (omega (arith, length-take to piece))

-- a read that failed changes nothing of what is left
pub failed_rest : (now : LineState) (limit at from to : ℕ) (old new line file : List ℕ)
    → to ≤ from
    → record { limit = limit; at = at; ahead = drop from (take to old); line = line } ≡ now
    → rest_of (record { limit = limit; at = at; ahead = drop from (take to new); line = line }) file ≡ rest_of now file
failed_rest now limit at from to old new line file spent same =
    ap (λ front. front ++ drop at (take limit file)) (none_ahead from to new spent ∙ sym (none_ahead from to old spent))
    ∙ ap (λ (r : LineState). rest_of r file) same

-- a piece that was read changes nothing of what is left
pub fetched_rest : (now : LineState) (limit at n : ℕ) (ahead line buffer piece behind file : List ℕ)
    → record { limit = limit; at = at; ahead = ahead; line = line } ≡ now
    → ahead ≡ []
    → IsPiece file at n buffer piece → n ≤ length piece → at + n ≤ limit
    → rest_of (record { limit = limit; at = at + n; ahead = take n (piece ++ behind); line = line }) file ≡ rest_of now file
fetched_rest now limit at n ahead line buffer piece behind file same none reads fits within =
    ap (λ front. front ++ drop (at + n) (take limit file)) (take-append-le n piece behind fits ∙ reads.front)
    ∙ piece_and_rest at n limit file within
    ∙ ap (λ front. front ++ drop at (take limit file)) (sym none)
    ∙ ap (λ (r : LineState). rest_of r file) same

-- a read that gave nothing found the end of the file
pub end_reached : (limit at n : ℕ) (line buffer piece behind file : List ℕ)
    → n ≡ 0 → 0 < length piece → at ≤ limit
    → IsPiece file at n buffer piece
    → IsAtEnd (record { limit = limit; at = at + n; ahead = take n (piece ++ behind); line = line }) file
end_reached limit at n line buffer piece behind file none room within reads =
    let ends : length file ≤ at = reads.end none room in
    record {
      rest =
          ap (λ k. take k (piece ++ behind) ++ drop (at + n) (take limit file)) none
          ∙ drop_all (at + n) (take limit file) (omega (arith, length-take limit file));
      within = omega arith;
    }

-- the bytes of a piece between two places
pub between : (from to : ℕ) (piece : List ℕ) → from ≤ to → drop from (take to piece) ≡ take (to - from) (drop from piece)
between from to piece ordered =
    let all : from + (to - from) ≡ to = omega arith in
    subst (λ k. drop from (take k piece) ≡ take (to - from) (drop from piece)) all (drop-take from (to - from) piece)
