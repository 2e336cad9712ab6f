use Rattle.std.proofs.Common.{◌≡◌, ◌-◌, ◌<◌, not, [], length, take, drop, sym, ap, ◌∙◌, arith}
use Rattle.std.specs.List.{position_or_len, before_first}
use Rattle.std.proofs.lemmas.Bool.Decides.{nat_tests}
use Rattle.std.proofs.lemmas.List.Sums.{prefix_len-le-length}
use Rattle.number_words.specs.Line.{is_blank}
use Rattle.number_words.specs.Scan.{words_left, words_behind}
use Rattle.number_words.proofs.Lines.{nothing_left, front-split, back-split}
use Rattle.number_words.proofs.WordSteps.{words_left-end, words_left-word}
use Rattle.number_words.proofs.scan.WordsIterator.next.Goals as goal

pub split_at-requires : goal.split_at-requires
split_at-requires c =
    let rest = c.self.inside.rest.now in
    let len = c.gap_before_word-gap.result.len in
    omega (arith, prefix_len-le-length (λ b. not (is_blank b)) (take (length rest - len) (drop len rest)))

pub returns-then-is_empty-clause-steps : goal.returns-then-is_empty-clause-steps
unfolding words_behind
returns-then-is_empty-clause-steps c =
    let rest = c.self.inside.rest.now in
    let gap = c.gap_before_word-gap in
    let text = front-split rest c.split_at.result.0.now gap.result.len c.run_len.result c.run_len.ensures c.split_at.ensures.front in
    let behind = back-split rest c.split_at.result.1.now gap.result.len c.run_len.result c.run_len.ensures c.split_at.ensures.back in
    let empty : length (before_first is_blank (drop gap.result.len rest)) ≡ 0 = grind (arith, nat_tests, ap length text) in
    let none = nothing_left rest gap.result.len gap.ensures.stops empty in
    let left = words_left gap.result.line gap.result.place in
    let end : c.split_at.result.1.now ≡ [] = behind ∙ ap (λ xs. drop (position_or_len is_blank xs) xs) none in
    let over = words_left-end gap.result.line gap.result.place in
    (sym c.self.view_is ∙ sym gap.ensures.same ∙ ap left none ∙ over, ap left end ∙ over)

pub returns-clause-steps : goal.returns-clause-steps
unfolding words_behind
returns-clause-steps c =
    let rest = c.self.inside.rest.now in
    let gap = c.gap_before_word-gap in
    let text = front-split rest c.split_at.result.0.now gap.result.len c.run_len.result c.run_len.ensures c.split_at.ensures.front in
    let behind = back-split rest c.split_at.result.1.now gap.result.len c.run_len.result c.run_len.ensures c.split_at.ensures.back in
    let some : 0 < length (before_first is_blank (drop gap.result.len rest)) = grind (arith, nat_tests, ap length text) in
    sym c.self.view_is ∙ sym gap.ensures.same ∙ words_left-word gap.result.line gap.result.place (drop gap.result.len rest) some ∙ cc

pub returns-clause-goes : goal.returns-clause-goes
returns-clause-goes c =
    let steps = returns-clause-steps c in
    record { on = λ _. (tt, tt, omega (arith, ap length steps)); keeps = tt; rests = λ _. tt }
