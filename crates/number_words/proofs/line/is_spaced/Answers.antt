use Rattle.std.proofs.Common.{◌≡◌, ◌<◌, true, get_or, length, drop, sym, ap, ◌∙◌, inl, inr, arith}
use Rattle.number_words.specs.Line.{is_blank}
use Rattle.number_words.proofs.Lines.{spaced_from, is_spaced-in_word, is_spaced-blank, spaced_from-drop_part, spaced_from-drop_space, spaced_from-drop_other, is_spaced-spaced_from}
use Rattle.number_words.proofs.line.is_spaced.Goals as goal
use Rattle.number_words.proofs.line.is_spaced.Goals.{else-in_word-via-then-in_word+else-b-eq32, else-in_word-via-else-in_word, then-not-is_blank, else-not-is_blank+then-in_word+then-b-eq32}

pub returns-else-in_word : goal.returns-else-in_word
returns-else-in_word c =
    let line = c.args.line.now in
    let i = c.loop-b.b-index in
    let inside = c.loop-b-test.true in
    let some : 0 < length line = omega arith in
    let blank : is_blank (get_or line i 0) ≡ true = sym c.is_blank.ensures ∙ c.if-not-is_blank.false in
    elim c.else-in_word.branch [
      | else-in_word-via-then-in_word+else-b-eq32 w ↦
          sym (is_spaced-spaced_from line some ∙ sym c.loop-b.invariant ∙ spaced_from-drop_other c.loop-b.in_word line i inside blank (inr w.if-b-eq32.false))
      | else-in_word-via-else-in_word w ↦
          sym (is_spaced-spaced_from line some ∙ sym c.loop-b.invariant ∙ spaced_from-drop_other c.loop-b.in_word line i inside blank (inl w.if-in_word.false))
    ]

pub loop-b-preserved : goal.loop-b-preserved
loop-b-preserved c =
    let line = c.args.line.now in
    let i = c.loop-b.b-index in
    let inside = c.loop-b-test.true in
    elim c.if-not-is_blank.branch [
      | then-not-is_blank w ↦ rw w.in_word-is (sym (spaced_from-drop_part c.loop-b.in_word line i inside (sym c.is_blank.ensures ∙ w.if-not-is_blank.true)) ∙ c.loop-b.invariant)
      | else-not-is_blank+then-in_word+then-b-eq32 w ↦ rw w.in_word-is (sym (spaced_from-drop_space c.loop-b.in_word line i inside w.if-in_word.true w.if-b-eq32.true) ∙ c.loop-b.invariant)
    ]

pub returns-then-in_word-2 : goal.returns-then-in_word-2
returns-then-in_word-2 c =
    let line = c.args.line.now in
    c.if-in_word-2.true ∙ is_spaced-in_word line c.loop-b.b-index c.loop-b-test.false (ap (λ b. spaced_from b (drop c.loop-b.b-index line)) (sym c.if-in_word-2.true) ∙ c.loop-b.invariant)

pub returns-else-in_word-2 : goal.returns-else-in_word-2
returns-else-in_word-2 c =
    let line = c.args.line.now in
    c.is_empty.ensures ∙ is_spaced-blank line c.loop-b.b-index c.loop-b-test.false (ap (λ b. spaced_from b (drop c.loop-b.b-index line)) (sym c.if-in_word-2.false) ∙ c.loop-b.invariant)
