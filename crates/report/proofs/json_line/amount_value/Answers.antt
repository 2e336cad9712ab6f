use Rattle.std.proofs.Common.{◌≡◌, sym, subst, rules}
use Rattle.std.specs.Str.{IsUtf8}
use Rattle.number_words.specs.Cost.{micro_text}
use Rattle.report.proofs.JsonTexts.{amount_is_utf8}
use Rattle.report.proofs.json_line.amount_value.Goals as goal

pub unwrap-text-requires : goal.unwrap-text-requires
unwrap-text-requires c =
    let is : c.push_micro.new.text.items ≡ micro_text c.args.micro = search rules in
    c.from_utf8.ensures.succeeds (subst IsUtf8 (sym is) (amount_is_utf8 c.args.micro))
