-- The first line feed of some bytes, and what stands before and behind it.
use Rattle.std.proofs.Common.{◌≡◌, ℕ, ◌+◌, ◌<◌, ◌≤◌, Bool, true, false, cond, not, nat_lt, List, ◌∷◌, ◌++◌, length, take, drop, get_or, get_or-take, refl, sym, ap, ◌∙◌, subst, arith}
use Rattle.std.specs.Prelude.{None, Some, unwrap_or}
use Rattle.std.specs.List.{position, position_or_len, before_first, after_first}
use Rattle.std.proofs.lemmas.Bool.{ltb-true, ltb-false, eqb-true}
use Rattle.std.proofs.lemmas.List.{take_all, drop_all, drop-drop, length-take}
use Rattle.std.proofs.lemmas.List.Sums.{split_at_first, passes_at_first, fails_before_first, prefix_len-le-length}
use Rattle.shelf_lines.specs.Line.{is_line_feed, IsLine}

cond_some : (b : Bool) (n k : ℕ) → cond b (Some n) None ≡ Some k → (b ≡ true) × (n ≡ k)
cond_some true n k e = (refl, cc)
cond_some false n k e = cc

cond_none : (b : Bool) (n : ℕ) → cond b (Some n) None ≡ None → b ≡ false
cond_none true n e = cc
cond_none false n e = refl

-- the place of a line feed that is there
feed_found : (xs : List ℕ) (k : ℕ) → position is_line_feed xs ≡ Some k → (position_or_len is_line_feed xs ≡ k) × (position_or_len is_line_feed xs < length xs)
feed_found xs k e =
    let found = cond_some (nat_lt (position_or_len is_line_feed xs) (length xs)) (position_or_len is_line_feed xs) k e in
    (found.1, ltb-true _ _ found.0)

-- the place of one that isn't
feed_missing : (xs : List ℕ) → position is_line_feed xs ≡ None → position_or_len is_line_feed xs ≡ length xs
feed_missing xs e =
    let past : length xs ≤ position_or_len is_line_feed xs = ltb-false _ _ (cond_none (nat_lt (position_or_len is_line_feed xs) (length xs)) (position_or_len is_line_feed xs) e) in
    omega (arith, prefix_len-le-length (λ b. not (is_line_feed b)) xs)

-- how many bytes stand before the first line feed, or how many there are
pub feed_or_end : (xs : List ℕ) → unwrap_or (position is_line_feed xs) (length xs) ≡ position_or_len is_line_feed xs
feed_or_end xs =
    elim (position is_line_feed xs) as (λ found. position is_line_feed xs ≡ found → unwrap_or found (length xs) ≡ position_or_len is_line_feed xs) [
      | None ↦ λ e. sym (feed_missing xs e)
      | Some k ↦ λ e. sym (feed_found xs k e).0
    ] refl

-- The two ends of a step that hands out bytes ahead: at a line feed, and at the end of the piece.

pub found_there : (ahead xs : List ℕ) (k : ℕ) → ahead ≡ xs → position is_line_feed xs ≡ Some k → position_or_len is_line_feed ahead < length ahead
found_there ahead xs k same e = subst (λ (l : List ℕ). position_or_len is_line_feed l < length l) (sym same) (feed_found xs k e).1

pub found_line : (front old ahead xs line : List ℕ) (k : ℕ) → front ≡ old → ahead ≡ xs → position is_line_feed xs ≡ Some k
    → line ≡ old ++ take k xs → line ≡ front ++ before_first is_line_feed ahead
found_line front old ahead xs line k kept same e step =
    step
    ∙ ap (λ n. old ++ take n xs) (sym (feed_found xs k e).0)
    ∙ ap (λ l. old ++ before_first is_line_feed l) (sym same)
    ∙ ap (λ l. l ++ before_first is_line_feed ahead) (sym kept)

pub found_ahead : (ahead xs piece : List ℕ) (from k : ℕ) → ahead ≡ xs → drop from piece ≡ xs
    → position is_line_feed xs ≡ Some k → drop (from + k + 1) piece ≡ after_first is_line_feed ahead
found_ahead ahead xs piece from k same is e =
    let place : from + k + 1 ≡ from + (position_or_len is_line_feed xs + 1) = omega (arith, (feed_found xs k e).0) in
    ap (λ n. drop n piece) place
    ∙ sym (drop-drop (position_or_len is_line_feed xs + 1) from piece)
    ∙ ap (drop (position_or_len is_line_feed xs + 1)) is
    ∙ ap (after_first is_line_feed) (sym same)

pub missing_there : (ahead xs : List ℕ) → ahead ≡ xs → position is_line_feed xs ≡ None → length ahead ≤ position_or_len is_line_feed ahead
missing_there ahead xs same e = subst (λ (l : List ℕ). length l ≤ position_or_len is_line_feed l) (sym same) (omega (arith, feed_missing xs e))

pub missing_line : (front old ahead xs line : List ℕ) → front ≡ old → ahead ≡ xs → position is_line_feed xs ≡ None
    → line ≡ old ++ xs → line ≡ front ++ before_first is_line_feed ahead
missing_line front old ahead xs line kept same e step =
    step
    ∙ ap (λ l. old ++ l) (sym (take_all (position_or_len is_line_feed xs) xs (omega (arith, feed_missing xs e))))
    ∙ ap (λ l. old ++ before_first is_line_feed l) (sym same)
    ∙ ap (λ l. l ++ before_first is_line_feed ahead) (sym kept)

pub missing_ahead : (ahead xs piece : List ℕ) (to : ℕ) → ahead ≡ xs → position is_line_feed xs ≡ None
    → drop to (take to piece) ≡ after_first is_line_feed ahead
missing_ahead ahead xs piece to same e =
    drop_all to (take to piece) (omega (arith, length-take to piece))
    ∙ sym (drop_all (position_or_len is_line_feed xs + 1) xs (omega (arith, feed_missing xs e)))
    ∙ ap (after_first is_line_feed) (sym same)

-- What such a step means.

-- what stands before the first line feed is a line
pub before-is_line : (xs : List ℕ) → IsLine (before_first is_line_feed xs)
before-is_line xs = λ k d below.
    let within : k < position_or_len is_line_feed xs = omega (arith, length-take (position_or_len is_line_feed xs) xs) in
    rw get_or-take (fails_before_first is_line_feed xs k d within)

-- bytes in which there is a line feed are what stands before the first one, that, and what stands behind it
pub around_feed : (xs : List ℕ) → position_or_len is_line_feed xs < length xs → xs ≡ before_first is_line_feed xs ++ 10 ∷ after_first is_line_feed xs
around_feed xs there =
    let feed : get_or xs (position_or_len is_line_feed xs) 0 ≡ 10 = eqb-true _ _ (passes_at_first is_line_feed xs 0 there) in
    split_at_first is_line_feed xs 0 there
    ∙ ap (λ b. before_first is_line_feed xs ++ b ∷ after_first is_line_feed xs) feed
