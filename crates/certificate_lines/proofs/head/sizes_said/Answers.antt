use Rattle.std.proofs.Common.{◌∷◌, sym, ap, ◌∙◌}
use Rattle.number_words.specs.Line.{words_of_line}
use Rattle.certificate_lines.proofs.Walks.{sizes-numbers}
use Rattle.certificate_lines.proofs.head.sizes_said.Goals as goal

pub is_size-requires-then-is_size : goal.is_size-requires-then-is_size
is_size-requires-then-is_size c =
    let found = c.in-Some-Some-Some-None in
    (sizes-numbers (words_of_line c.args.line.now) found.sites.now found.field-0-1.now found.customers.now _ c.requires
    (sym c.behind_first-words.ensures ∙ found.ensures.steps ∙ ap (λ ws. found.sites.now ∷ ws) found.ensures'.steps ∙ ap (λ ws. found.sites.now ∷ found.field-0-1.now ∷ ws) found.ensures''.steps)).1

pub is_count-requires : goal.is_count-requires
is_count-requires c =
    let found = c.in-Some-Some-Some-None in
    (sizes-numbers (words_of_line c.args.line.now) found.sites.now found.field-0-1.now found.customers.now _ c.requires
    (sym c.behind_first-words.ensures ∙ found.ensures.steps ∙ ap (λ ws. found.sites.now ∷ ws) found.ensures'.steps ∙ ap (λ ws. found.sites.now ∷ found.field-0-1.now ∷ ws) found.ensures''.steps)).0

pub is_count-requires-then-is_count : goal.is_count-requires-then-is_count
is_count-requires-then-is_count c =
    let found = c.in-Some-Some-Some-None in
    (sizes-numbers (words_of_line c.args.line.now) found.sites.now found.field-0-1.now found.customers.now _ c.requires
    (sym c.behind_first-words.ensures ∙ found.ensures.steps ∙ ap (λ ws. found.sites.now ∷ ws) found.ensures'.steps ∙ ap (λ ws. found.sites.now ∷ found.field-0-1.now ∷ ws) found.ensures''.steps)).1
