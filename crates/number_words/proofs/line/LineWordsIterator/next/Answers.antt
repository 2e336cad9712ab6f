use Rattle.std.proofs.Common.{◌≡◌, ◌-◌, ◌<◌, not, [], ◌∷◌, length, take, drop, sym, ap, ◌∙◌, arith}
use Rattle.std.specs.List.{position_or_len, before_first}
use Rattle.std.proofs.lemmas.Bool.Decides.{nat_tests}
use Rattle.std.proofs.lemmas.List.Sums.{prefix_len-le-length}
use Rattle.number_words.specs.Line.{is_blank}
use Rattle.number_words.specs.Line.{words_of_line}
use Rattle.number_words.proofs.Lines.{words_of_line-first, nothing_left, front-split, back-split}
use Rattle.number_words.proofs.line.LineWordsIterator.next.Goals as goal

pub split_at-requires : goal.split_at-requires
split_at-requires c =
    let rest = c.self.inside.rest.now in
    let len = c.gap_len.result in
    omega (arith, c.run_len.ensures, prefix_len-le-length (λ b. not (is_blank b)) (take (length rest - len) (drop len rest)))

pub returns-then-is_empty-clause-steps : goal.returns-then-is_empty-clause-steps
returns-then-is_empty-clause-steps c =
    let rest = c.self.inside.rest.now in
    let len = c.gap_len.result in
    let word = front-split rest c.split_at.result.0.now len c.run_len.result c.run_len.ensures c.split_at.ensures.front in
    let behind = back-split rest c.split_at.result.1.now len c.run_len.result c.run_len.ensures c.split_at.ensures.back in
    let empty : length (before_first is_blank (drop len rest)) ≡ 0 = grind (arith, nat_tests, ap length word) in
    let none = nothing_left rest len c.gap_len.ensures.stops empty in
    let end : c.split_at.result.1.now ≡ [] = behind ∙ ap (λ xs. drop (position_or_len is_blank xs) xs) none in
    (sym c.self.view_is ∙ sym c.gap_len.ensures.same ∙ ap words_of_line none, ap words_of_line end)

pub returns-clause-steps : goal.returns-clause-steps
returns-clause-steps c =
    let rest = c.self.inside.rest.now in
    let len = c.gap_len.result in
    let word = front-split rest c.split_at.result.0.now len c.run_len.result c.run_len.ensures c.split_at.ensures.front in
    let behind = back-split rest c.split_at.result.1.now len c.run_len.result c.run_len.ensures c.split_at.ensures.back in
    let some : 0 < length (before_first is_blank (drop len rest)) = grind (arith, nat_tests, ap length word) in
    sym c.self.view_is ∙ sym c.gap_len.ensures.same ∙ words_of_line-first (drop len rest) some
    ∙ ap (λ w. w ∷ words_of_line (drop (position_or_len is_blank (drop len rest)) (drop len rest))) (sym word)
    ∙ ap (λ xs. c.split_at.result.0.now ∷ words_of_line xs) (sym behind)

pub returns-clause-goes : goal.returns-clause-goes
returns-clause-goes c =
    let steps = returns-clause-steps c in
    record { on = λ _. (tt, tt, omega (arith, ap length steps)); keeps = tt; rests = λ _. tt }
