use Rattle.std.proofs.Common.{◌≡◌, true, get_or, sym, ◌∙◌, arith}
use Rattle.number_words.specs.Line.{is_blank}
use Rattle.number_words.proofs.WordSteps.{words_left-drop_line_feed, words_left-drop_blank}
use Rattle.number_words.proofs.scan.gap_before_word.Goals as goal
use Rattle.number_words.proofs.scan.gap_before_word.Goals.{then-bytes-gap-eq10, else-bytes-gap-eq10}

pub loop-gap-preserved : goal.loop-gap-preserved
loop-gap-preserved c =
    let bytes = c.args.bytes.now in
    let old = c.loop-gap.gap in
    let kept = c.loop-gap.invariant in
    let blank : is_blank (get_or bytes old.len 0) ≡ true = sym c.is_blank.ensures ∙ c.if-is_blank.true in
    elim c.if-bytes-gap-eq10.branch [
      | then-bytes-gap-eq10 w ↦ rw w.gap-is (record {
        in_range = omega arith;
        room = record { line_counts = omega arith; place_counts = omega arith; line_fits = omega arith; place_fits = omega arith };
        same = sym (words_left-drop_line_feed old.line old.place bytes old.len c.loop-gap-test.true w.if-bytes-gap-eq10.true) ∙ kept.same;
      })
      | else-bytes-gap-eq10 w ↦ rw w.gap-is (record {
        in_range = omega arith;
        room = record { line_counts = omega arith; place_counts = omega arith; line_fits = omega arith; place_fits = omega arith };
        same = sym (words_left-drop_blank old.line old.place bytes old.len c.loop-gap-test.true blank w.if-bytes-gap-eq10.false) ∙ kept.same;
      })
    ]
