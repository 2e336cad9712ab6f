use Rattle.std.proofs.Common.{[], ◌∷◌, ◌++◌, ap, ◌∙◌}
use Rattle.std.specs.FinMap.{get}
use Rattle.dualoc_cli.proofs.Proving.{one_kept}
use Rattle.dualoc_cli.proofs.range.keep.Goals as goal

pub returns : goal.returns
returns c =
    let text = c.in_ok-from_str.field-0 in
    let bytes = c.args.bytes in
    ap (λ files. get files c.args.name.now) c.new-2.ensures.files
    ∙ one_kept c.push.new.self.items text bytes c.args.name.now (c.in_ok-push.ensures.items ∙ ap (λ l. l ++ (text, bytes) ∷ []) c.new-files.ensures.items) c.in_ok-from_str.ensures.ok
