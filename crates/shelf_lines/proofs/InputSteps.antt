-- The lines of an input: what is told of the bytes that are left, step by step.
use Rattle.std.proofs.Common.{◌≡◌, ℕ, ◌+◌, ◌-◌, ◌<◌, ◌≤◌, false, not, List, [], ◌∷◌, ◌++◌, length, take, drop, refl, sym, ap, ◌∙◌, subst, arith, append_assoc, append-nil, length-append}
use Rattle.std.specs.Prelude.{Option, None, Some, IfSome}
use Rattle.std.specs.List.{position_or_len, before_first, after_first}
use Rattle.std.proofs.lemmas.List.{take_all, drop_all, take-append-drop, length-take}
use Rattle.std.proofs.lemmas.List.Elements.{All-append}
use Rattle.std.proofs.lemmas.List.Sums.{prefix_len-le-length}
use Rattle.shelf_port.specs.Streams.{with_front}
use Rattle.shelf_lines.specs.Line.{is_line_feed, IsLine}
use Rattle.shelf_lines.specs.Rest.{LineState, unread, Takes}
use Rattle.shelf_lines.specs.Input.{HasLongLine}
use Rattle.shelf_lines.proofs.Feeds.{before-is_line, around_feed}
use Rattle.shelf_lines.proofs.Pieces.{none_ahead}

with_front-append : (told : Option (List ℕ)) (xs ys : List ℕ) → with_front (xs ++ ys) told ≡ with_front xs (with_front ys told)
with_front-append None xs ys = refl
with_front-append (Some rest) xs ys = ap Some (append_assoc xs ys rest)

-- a read that failed changes nothing of what is left
pub failed_told : (before after : Option (List ℕ)) (ahead : List ℕ) (from to : ℕ) (old new : List ℕ) → to ≤ from → drop from (take to old) ≡ ahead → after ≡ before
    → with_front (drop from (take to new)) after ≡ with_front ahead before
failed_told before after ahead from to old new spent same unchanged =
    ap (λ l. with_front l after) (none_ahead from to new spent ∙ sym (none_ahead from to old spent) ∙ same)
    ∙ ap (with_front ahead) unchanged

-- a look ahead hands out nothing
pub looked : (whole before after : Option (List ℕ)) (old new : LineState) → new.line ≡ old.line → with_front new.ahead after ≡ with_front old.ahead before
    → whole ≡ with_front (old.line ++ old.ahead) before → whole ≡ with_front (new.line ++ new.ahead) after
looked whole before after old new line rest so_far =
    so_far
    ∙ with_front-append before old.line old.ahead
    ∙ ap (λ l. with_front l (with_front old.ahead before)) (sym line)
    ∙ ap (with_front new.line) (sym rest)
    ∙ sym (with_front-append after new.line new.ahead)

-- a step that found a line feed ends the line
feed_taken : (old new : LineState) → Takes old new → position_or_len is_line_feed old.ahead < length old.ahead → old.line ++ old.ahead ≡ new.line ++ 10 ∷ new.ahead
feed_taken old new takes there =
    ap (λ a. old.line ++ a) (around_feed old.ahead there)
    ∙ sym (append_assoc old.line (before_first is_line_feed old.ahead) (10 ∷ after_first is_line_feed old.ahead))
    ∙ ap (λ l. l ++ 10 ∷ after_first is_line_feed old.ahead) (sym takes.line)
    ∙ ap (λ a. new.line ++ 10 ∷ a) (sym takes.ahead)

pub told_ended : (whole told : Option (List ℕ)) (old new : LineState) → Takes old new → position_or_len is_line_feed old.ahead < length old.ahead
    → whole ≡ with_front (old.line ++ old.ahead) told → whole ≡ with_front (new.line ++ 10 ∷ new.ahead) told
told_ended whole told old new takes there so_far = so_far ∙ ap (λ l. with_front l told) (feed_taken old new takes there)

pub unread_ended : (old new : LineState) → Takes old new → position_or_len is_line_feed old.ahead < length old.ahead
    → length old.line + unread old ≡ length new.line + 1 + unread new
unread_ended old new takes there =
    omega (arith, takes.same_limit, takes.same_at, ap length (feed_taken old new takes there), length-append old.line old.ahead, length-append new.line (10 ∷ new.ahead))

-- nothing is ahead of a reader that has nothing left
empty_of : (n : ℕ) (xs : List ℕ) → n + length xs ≡ 0 → xs ≡ []
empty_of n [] none = refl
empty_of n (x ∷ xs) none = absurd (omega (arith, none))

pub nothing_ahead : (r : LineState) → unread r ≡ 0 → r.ahead ≡ []
nothing_ahead r none = empty_of (r.limit - r.at) r.ahead none

-- a line feed that is the last byte of all that is looked at
pub limit_by_feed : (whole : ℕ) (at old new : LineState) → whole ≡ length at.line + unread at → unread old ≡ unread at → old.line ≡ at.line → Takes old new
    → position_or_len is_line_feed old.ahead < length old.ahead → unread new ≡ 0 → whole ≡ length new.line + 1
limit_by_feed whole at old new so_far same line takes there none = omega (arith, so_far, same, ap length line, unread_ended old new takes there, none)

-- a step that found none takes all that is ahead
pub told_goes_on : (whole told : Option (List ℕ)) (old new : LineState) → Takes old new → length old.ahead ≤ position_or_len is_line_feed old.ahead
    → whole ≡ with_front (old.line ++ old.ahead) told → whole ≡ with_front (new.line ++ new.ahead) told
told_goes_on whole told old new takes none so_far =
    let behind : after_first is_line_feed old.ahead ≡ [] = drop_all (position_or_len is_line_feed old.ahead + 1) old.ahead (omega arith) in
    let taken : old.line ++ old.ahead ≡ new.line ++ new.ahead =
    ap (λ a. old.line ++ a) (sym (take_all (position_or_len is_line_feed old.ahead) old.ahead none))
    ∙ sym takes.line
    ∙ sym (append-nil new.line)
    ∙ ap (λ a. new.line ++ a) (sym (takes.ahead ∙ behind)) in
    so_far ∙ ap (λ l. with_front l told) taken

-- a line that was not too long with what is ahead is not too long once that is taken
pub still_short : (most : ℕ) (old new : LineState) → Takes old new → length old.line + position_or_len is_line_feed old.ahead ≤ most → length new.line ≤ most
still_short most old new takes short =
    omega (arith, ap length takes.line, length-append old.line (before_first is_line_feed old.ahead), length-take (position_or_len is_line_feed old.ahead) old.ahead)

to_feed : (xs : List ℕ) → position_or_len is_line_feed xs ≤ length xs
to_feed xs = prefix_len-le-length (λ b. not (is_line_feed b)) xs

-- a line that is too long with what is ahead
pub long_line : (whole told : Option (List ℕ)) (most : ℕ) (r : LineState) → whole ≡ with_front (r.line ++ r.ahead) told → IsLine r.line
    → most < length r.line + position_or_len is_line_feed r.ahead → IfSome whole (HasLongLine most)
long_line whole None most r same is_line long = subst (λ (w : Option (List ℕ)). IfSome w (HasLongLine most)) (sym same) tt
long_line whole (Some rest) most r same is_line long =
    let n : ℕ = position_or_len is_line_feed r.ahead in
    let behind : List ℕ = drop n r.ahead in
    let front : List ℕ = before_first is_line_feed r.ahead in
    subst (λ (w : Option (List ℕ)). IfSome w (HasLongLine most)) (sym same) (record {
      front = r.line ++ front;
      behind = behind ++ rest;
      bytes_are =
          ap (λ a. (r.line ++ a) ++ rest) (sym (take-append-drop n r.ahead))
          ∙ append_assoc r.line (front ++ behind) rest
          ∙ ap (λ l. r.line ++ l) (append_assoc front behind rest)
          ∙ sym (append_assoc r.line front (behind ++ rest));
      is_line = All-append (λ b. is_line_feed b ≡ false) r.line front is_line (before-is_line r.ahead);
      long = omega (arith, length-append r.line front, length-take n r.ahead, to_feed r.ahead);
    })

-- the byte that passes the limit of a line is one of those that are looked at
pub long_within : (most whole : ℕ) (r : LineState) → whole ≡ length r.line + unread r → most < length r.line + position_or_len is_line_feed r.ahead → most < whole
long_within most whole r all long = omega (arith, to_feed r.ahead)

-- at the end of the input what is left is the line
pub ended_there : (whole told : Option (List ℕ)) (r : LineState) → whole ≡ with_front (r.line ++ r.ahead) told → r.ahead ≡ [] → IfSome told (λ rest. rest ≡ [])
    → IfSome whole (λ rest. rest ≡ r.line)
ended_there whole None r same none ends = subst (λ (w : Option (List ℕ)). IfSome w (λ rest. rest ≡ r.line)) (sym same) tt
ended_there whole (Some rest) r same none ends =
    subst (λ (w : Option (List ℕ)). IfSome w (λ bytes. bytes ≡ r.line)) (sym same)
    (ap (λ a. (r.line ++ a) ++ rest) none
    ∙ ap (λ t. (r.line ++ []) ++ t) ends
    ∙ append-nil (r.line ++ [])
    ∙ append-nil r.line)
