-- Lines of edits: one more behind them, and the last one taken out.
use Rattle.std.proofs.Common.{◌≡◌, ℕ, ◌-◌, ◌<◌, List, [], ◌∷◌, ◌++◌, length, take, refl, ap, ◌∙◌, arith}
use Rattle.std.proofs.lemmas.Bool.{lt-ltb, le-ltb}
use Rattle.std.proofs.lemmas.List.{length-append, take-append-le, take_all}
use Rattle.scenario_keeper.specs.Scenario.{Scenario, with_line, without_last}
use Rattle.desk_session.specs.State.{lines_after}
use Rattle.desk_session.specs.Done.{with_edits}

module _ {X : Type 0} where
  -- the list without the element that was put behind it
  pub front : (xs : List X) (x : X) → take (length (xs ++ x ∷ []) - 1) (xs ++ x ∷ []) ≡ xs
  front xs x =
      let size : length (xs ++ x ∷ []) - 1 ≡ length xs = omega (arith, length-append xs (x ∷ [])) in
      ap (λ n. take n (xs ++ x ∷ [])) size ∙ take-append-le (length xs) xs (x ∷ []) (omega arith) ∙ take_all (length xs) xs (omega arith)

pub popped : (kept : Scenario) (line : List ℕ) → without_last (with_line kept line) ≡ kept
popped kept line = ap (with_edits kept) (front kept.edits line)

-- Which lines are left.

module _ (lines : List (List ℕ)) (line : List ℕ) where
  pub lines_more : (before after : ℕ) → before < after → lines_after lines line before after ≡ lines ++ line ∷ []
  lines_more before after more = rw (lt-ltb before after more) refl

  pub lines_fewer : (before after : ℕ) → after < before → lines_after lines line before after ≡ take (length lines - 1) lines
  lines_fewer before after fewer = rw (le-ltb before after (omega (arith, fewer)), lt-ltb after before fewer) refl

  pub lines_same : (before after : ℕ) → before ≡ after → lines_after lines line before after ≡ lines
  lines_same before after same = rw (le-ltb before after (omega (arith, same)), le-ltb after before (omega (arith, same))) refl
