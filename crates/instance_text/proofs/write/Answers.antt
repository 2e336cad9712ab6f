use Rattle.std.proofs.Common.{ℕ, List, ◌++◌, flat_map, ap, ◌∙◌}
use Rattle.std.specs.Prelude.{codes}
use Rattle.number_words.specs.Words.{spaced_lines}
use Rattle.instance_text.specs.Behind.{line}
use Rattle.instance_text.specs.OwnText.{customer_words, site_words, own_head_lines}
use Rattle.instance_text.proofs.Lines.{text_pieces}
use Rattle.instance_text.proofs.write.Goals as goal

pub returns : goal.returns
returns c =
    let I = c.args.inst.now in
    c.in_ok-extend_from_slice.ensures.items
    ∙ ap (λ (text : List ℕ). text ++ codes "end\n") (c.in_ok-push_sites.ensures ∙ ap (λ (text : List ℕ). text ++ flat_map (λ x. line (site_words I x)) I.sites) (c.in_ok-push_customers.ensures ∙ ap (λ (text : List ℕ). text ++ flat_map (λ c. line (customer_words c)) I.customers) c.in_ok-push_head.ensures))
    ∙ ap (λ (start : List ℕ). (((start ++ spaced_lines (own_head_lines I)) ++ flat_map (λ c. line (customer_words c)) I.customers) ++ flat_map (λ x. line (site_words I x)) I.sites) ++ codes "end\n") c.in_ok-text.ensures.items
    ∙ text_pieces I
