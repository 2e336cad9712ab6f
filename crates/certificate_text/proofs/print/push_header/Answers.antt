use Rattle.std.proofs.Common.{List, ℕ, [], ◌∷◌, ◌++◌, ap, ◌∙◌, append_assoc}
use Rattle.std.specs.Prelude.{codes}
use Rattle.certificate_text.proofs.Rows.{once_added}
use Rattle.certificate_text.proofs.print.push_header.Goals as goal

pub returns : goal.returns
returns c =
    let old : List ℕ = c.args.text.now.items in
    let name : List ℕ = codes "dualoc-certificate " in
    once_added c.extend_from_slice-3.result c.extend_from_slice-2.new.self.items (10 ∷ []) c.extend_from_slice-3.ensures.items
    (ap (λ t. t ++ 10 ∷ [])
    (c.in_ok-extend_from_slice-2.ensures.items
    ∙ ap (λ t. t ++ c.version.result.now) c.in_ok-extend_from_slice.ensures.items
    ∙ append_assoc old name c.version.result.now
    ∙ ap (λ number. old ++ (name ++ number)) c.version.ensures))
