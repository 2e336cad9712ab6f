use Rattle.std.specs.Option.{option_copied}
use Rattle.serde_json.specs.View.{view}
use Rattle.report.proofs.JsonTexts.{printed}
use Rattle.report.proofs.json_line.answer_text.Goals as goal

pub returns : goal.returns
returns c =
    printed c.args.inst.now c.args.claim (option_copied c.args.plan) (view c.in_ok-answer.answer) c.in_ok-text.text.items c.sites-places.ensures.valid c.requires c.in_ok-answer.ensures
    c.in_ok-text.ensures.text
