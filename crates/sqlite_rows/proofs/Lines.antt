-- Rows of edits, read one after another.
use Rattle.std.proofs.Common.{◌≡◌, ◌≢◌, ◌<◌, ◌≤◌, ◌+◌, ℕ, suc, List, [], ◌∷◌, ◌++◌, length, drop, get_or, refl, sym, ap, subst, ◌∙◌, arith}
use Rattle.std.proofs.lemmas.List.{append-nil, append_assoc, length_push, get_or_default, drop_more, drop_all}
use Rattle.sqlite_value.specs.Order.{Row}
use Rattle.scenario_keeper.specs.Scenario.{Scenario, with_line}
use Rattle.sqlite_rows.specs.Stored.{line_row, lines_from, base_row, AreOf}

-- some edits were read, and their rows stand before those that are left
pub record AreRead (edits : List (List ℕ)) (lines : List Row) (k : ℕ) : Type 0 where
  pub count : length edits ≡ k
  pub split : lines_from 1 edits ++ drop k lines ≡ lines

-- the rows of edits with one more behind them
lines-push : (place n : ℕ) (edits : List (List ℕ)) (line : List ℕ) → n ≡ place + length edits
    → lines_from place (edits ++ line ∷ []) ≡ lines_from place edits ++ line_row n line ∷ []
lines-push place n [] line is = ap (λ k. line_row k line ∷ []) (omega (arith, is))
lines-push place n (edit ∷ edits) line is = ap (λ rows. line_row place edit ∷ rows) (lines-push (place + 1) n edits line (omega (arith, is)))

-- behind the rows of some edits, among those of others, stands the row of a line with the next place
next_row : (place n : ℕ) (done edits : List (List ℕ)) (row : Row) (rest : List Row) → n ≡ place + length done
    → lines_from place done ++ row ∷ rest ≡ lines_from place edits → (line : List ℕ) × (row ≡ line_row n line)
next_row place n [] [] row rest is e = cc
next_row place n [] (line ∷ edits) row rest is e =
    let head : row ≡ line_row place line = cc in
    let same : place ≡ n = omega (arith, is) in
    (line, head ∙ ap (λ k. line_row k line) same)
next_row place n (edit ∷ done) [] row rest is e = cc
next_row place n (edit ∷ done) (line ∷ edits) row rest is e =
    let tail : lines_from (place + 1) done ++ row ∷ rest ≡ lines_from (place + 1) edits = cc in
    next_row (place + 1) n done edits row rest (omega (arith, is)) tail

pub read-none : (lines : List Row) → AreRead [] lines 0
read-none lines = record { count = refl; split = refl }

-- one more line was read
pub read-one : (scenario new : Scenario) (lines : List Row) (k : ℕ) (row : Row) (line : List ℕ) → k < length lines
    → AreRead scenario.edits lines k → row ≡ get_or lines k row → row ≡ line_row (length scenario.edits + 1) line → new ≡ with_line scenario line
    → AreRead new.edits lines (k + 1)
read-one scenario new lines k row line within read at row_is is =
    let edits = scenario.edits in
    let n = length edits + 1 in
    let there : get_or lines k [] ≡ line_row n line = sym (at ∙ get_or_default lines k row [] within) ∙ row_is in
    let whole : lines_from 1 (edits ++ line ∷ []) ++ drop (k + 1) lines ≡ lines =
    ap (λ t. t ++ drop (k + 1) lines) (lines-push 1 n edits line (omega arith))
    ∙ append_assoc (lines_from 1 edits) (line_row n line ∷ []) (drop (k + 1) lines)
    ∙ ap (λ r. lines_from 1 edits ++ r ∷ drop (k + 1) lines) (sym there)
    ∙ ap (λ t. lines_from 1 edits ++ t) (sym (drop_more lines k [] within))
    ∙ read.split in
    let all : AreRead (with_line scenario line).edits lines (k + 1) =
    record { count = length_push edits line ∙ ap (λ n. n + 1) read.count; split = whole } in
    subst (λ s. AreRead s.edits lines (k + 1)) (sym is) all

lines-length : (place : ℕ) (edits : List (List ℕ)) → length (lines_from place edits) ≡ length edits
lines-length place [] = refl
lines-length place (edit ∷ edits) = ap suc (lines-length (place + 1) edits)

-- all lines were read
pub read-all : (scenario : Scenario) (base : Row) (lines : List Row) (k : ℕ) → length lines ≤ k → base ≡ base_row scenario.base (length lines)
    → AreRead scenario.edits lines k → AreOf scenario base lines
read-all scenario base lines k end is read =
    let all : lines ≡ lines_from 1 scenario.edits =
    sym (sym (append-nil (lines_from 1 scenario.edits)) ∙ ap (λ t. lines_from 1 scenario.edits ++ t) (sym (drop_all k lines end)) ∙ read.split) in
    record {
      base_is = is ∙ ap (λ n. base_row scenario.base n) (ap length all ∙ lines-length 1 scenario.edits);
      lines_are = all;
    }

-- a row that is no line of the next place speaks against all scenarios
pub none-read : (done : Scenario) (base : Row) (lines : List Row) (k : ℕ) (row : Row) → k < length lines → AreRead done.edits lines k → row ≡ get_or lines k row
    → ((line : List ℕ) → row ≢ line_row (length done.edits + 1) line) → (scenario : Scenario) → ¬ AreOf scenario base lines
none-read done base lines k row within read at unlike scenario are =
    let there : get_or lines k [] ≡ row = sym (at ∙ get_or_default lines k row [] within) in
    let parts : lines_from 1 done.edits ++ get_or lines k [] ∷ drop (k + 1) lines ≡ lines_from 1 scenario.edits =
    ap (λ t. lines_from 1 done.edits ++ t) (sym (drop_more lines k [] within)) ∙ read.split ∙ are.lines_are in
    let found = next_row 1 (length done.edits + 1) done.edits scenario.edits _ _ (omega arith) parts in
    unlike found.0 (sym there ∙ found.1)

-- and so does the row of a base that names another number of edits
pub none-based : (base : Row) (lines : List Row) → ((text : List ℕ) → base ≢ base_row text (length lines)) → (scenario : Scenario) → ¬ AreOf scenario base lines
none-based base lines unlike scenario are =
    unlike scenario.base (are.base_is ∙ ap (λ n. base_row scenario.base n) (sym (ap length are.lines_are ∙ lines-length 1 scenario.edits)))
