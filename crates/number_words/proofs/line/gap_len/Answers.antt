use Rattle.std.proofs.Common.{◌≡◌, ◌+◌, true, get_or, drop, sym, ◌∙◌, arith}
use Rattle.std.proofs.lemmas.List.{at_drop_more}
use Rattle.number_words.specs.Line.{is_blank}
use Rattle.number_words.specs.Line.{words_of_line}
use Rattle.number_words.proofs.Lines.{words_of_line-blank}
use Rattle.number_words.proofs.line.gap_len.Goals as goal

pub loop-len-preserved : goal.loop-len-preserved
loop-len-preserved c =
    let bytes = c.args.bytes.now in
    let i = c.loop-len.len in
    let blank : is_blank (get_or bytes i 0) ≡ true = sym c.is_blank.ensures ∙ c.if-is_blank.true in
    record {
      in_range = omega arith;
      same = sym (at_drop_more words_of_line bytes i 0 c.loop-len-test.true ∙ words_of_line-blank (get_or bytes i 0) (drop (i + 1) bytes) blank) ∙ c.loop-len.invariant.same;
    }
