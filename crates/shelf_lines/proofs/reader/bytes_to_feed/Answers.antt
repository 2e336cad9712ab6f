use Rattle.std.proofs.Common.{ℕ, length, ap, ◌∙◌}
use Rattle.std.specs.Prelude.{Option, unwrap_or}
use Rattle.shelf_lines.proofs.Feeds.{feed_or_end}
use Rattle.shelf_lines.proofs.reader.bytes_to_feed.Goals as goal

pub returns : goal.returns
returns c = c.unwrap_or.ensures ∙ ap (λ (o : Option ℕ). unwrap_or o (length c.args.bytes.now)) c.first_feed.ensures ∙ feed_or_end c.args.bytes.now
