use Rattle.std.specs.Option.{option_copied}
use Rattle.certificate_text.proofs.Parts.{head_added}
use Rattle.certificate_text.proofs.write.push_head.Goals as goal

pub returns : goal.returns
returns c =
    head_added c.push_plan.result c.args.inst.now c.args.claim (option_copied c.args.plan) _ _ _ _ _ _
    c.in_ok-push_header.ensures c.in_ok-push_sizes.ensures c.in_ok-push_statuses.ensures c.in_ok-push_claim.ensures c.push_plan.ensures
