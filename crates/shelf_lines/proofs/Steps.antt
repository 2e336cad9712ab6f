-- A step that hands out what is ahead, up to the first line feed or to the end of the piece.
use Rattle.std.proofs.Common.{◌≡◌, ℕ, ◌+◌, ◌<◌, ◌≤◌, Bool, false, List, [], ◌∷◌, ◌++◌, length, take, drop, sym, ap, ◌∙◌, subst, arith, append_assoc, length-append}
use Rattle.std.specs.Prelude.{IsTrue}
use Rattle.std.specs.List.{position_or_len, before_first, after_first}
use Rattle.std.proofs.lemmas.List.{take_all, drop_all}
use Rattle.std.proofs.lemmas.List.Elements.{All-append}
use Rattle.shelf_lines.specs.Line.{is_line_feed, IsLine}
use Rattle.shelf_lines.specs.Rest.{LineState, rest_of, unread, Takes}
use Rattle.shelf_lines.proofs.Feeds.{before-is_line, around_feed}

-- what is left after such a step
rest_after : (old new : LineState) (file : List ℕ) → Takes old new → after_first is_line_feed old.ahead ++ drop old.at (take old.limit file) ≡ rest_of new file
rest_after old new file takes =
    ap (λ front. front ++ drop old.at (take old.limit file)) (sym takes.ahead)
    ∙ ap (λ n. new.ahead ++ drop n (take old.limit file)) (sym takes.same_at)
    ∙ ap (λ n. new.ahead ++ drop new.at (take n file)) (sym takes.same_limit)

-- the line grows by what was handed out
line_after : (old new : LineState) (rest : List ℕ) → Takes old new → old.line ++ (before_first is_line_feed old.ahead ++ rest) ≡ new.line ++ rest
line_after old new rest takes =
    sym (append_assoc old.line (before_first is_line_feed old.ahead) rest)
    ∙ ap (λ l. l ++ rest) (sym takes.line)

-- a step that found a line feed ends the line
pub line_ended : (whole file : List ℕ) (old new : LineState) → Takes old new → position_or_len is_line_feed old.ahead < length old.ahead
    → whole ≡ old.line ++ rest_of old file → whole ≡ new.line ++ 10 ∷ rest_of new file
line_ended whole file old new takes there so_far =
    let tail : List ℕ = drop old.at (take old.limit file) in
    so_far
    ∙ ap (λ a. old.line ++ (a ++ tail)) (around_feed old.ahead there)
    ∙ ap (λ r. old.line ++ r) (append_assoc (before_first is_line_feed old.ahead) (10 ∷ after_first is_line_feed old.ahead) tail)
    ∙ line_after old new (10 ∷ (after_first is_line_feed old.ahead ++ tail)) takes
    ∙ ap (λ r. new.line ++ 10 ∷ r) (rest_after old new file takes)

-- a step that found none goes on with the line
pub line_goes_on : (whole file : List ℕ) (old new : LineState) → Takes old new → length old.ahead ≤ position_or_len is_line_feed old.ahead
    → whole ≡ old.line ++ rest_of old file → whole ≡ new.line ++ rest_of new file
line_goes_on whole file old new takes none so_far =
    let tail : List ℕ = drop old.at (take old.limit file) in
    let behind : after_first is_line_feed old.ahead ≡ [] = drop_all (position_or_len is_line_feed old.ahead + 1) old.ahead (omega arith) in
    so_far
    ∙ ap (λ a. old.line ++ (a ++ tail)) (sym (take_all (position_or_len is_line_feed old.ahead) old.ahead none))
    ∙ line_after old new tail takes
    ∙ ap (λ r. new.line ++ (r ++ tail)) (sym behind)
    ∙ ap (λ r. new.line ++ r) (rest_after old new file takes)

-- what is handed out holds no line feed
pub still_line : (old new : LineState) → Takes old new → IsLine old.line → IsLine new.line
still_line old new takes is_line =
    subst (λ (l : List ℕ). IsLine l) (sym takes.line) (All-append (λ b. is_line_feed b ≡ false) old.line (before_first is_line_feed old.ahead) is_line (before-is_line old.ahead))

-- how many bytes a step takes that found no line feed
pub unread_goes_on : (old new : LineState) → Takes old new → length old.ahead ≤ position_or_len is_line_feed old.ahead
    → length old.line + unread old ≡ length new.line + unread new
unread_goes_on old new takes none =
    let front : before_first is_line_feed old.ahead ≡ old.ahead = take_all (position_or_len is_line_feed old.ahead) old.ahead none in
    let behind : after_first is_line_feed old.ahead ≡ [] = drop_all (position_or_len is_line_feed old.ahead + 1) old.ahead (omega arith) in
    omega (arith, ap length takes.line, ap length takes.ahead, takes.same_limit, takes.same_at, ap length front, ap length behind, length-append old.line (before_first is_line_feed old.ahead))

-- where what was asked for is not below a bound
pub not_below : (b : Bool) (m n : ℕ) → b ≡ false → (m < n → IsTrue b) → n ≤ m
not_below b m n is_false below =
    let none : m < n → ⊥ = λ lt. (let yes : IsTrue b = below lt in cc) in
    omega arith

-- a look ahead hands out nothing
pub looked_ahead : (whole file : List ℕ) (old new : LineState) → new.line ≡ old.line → rest_of new file ≡ rest_of old file
    → whole ≡ old.line ++ rest_of old file → whole ≡ new.line ++ rest_of new file
looked_ahead whole file old new line rest so_far =
    so_far
    ∙ ap (λ l. l ++ rest_of old file) (sym line)
    ∙ ap (λ r. new.line ++ r) (sym rest)
