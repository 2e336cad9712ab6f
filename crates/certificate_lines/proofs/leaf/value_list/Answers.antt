use Rattle.std.proofs.Common.{Some, List, [], ◌∷◌, ◌++◌, append_assoc, map, sym, ap, ◌∙◌}
use mir.Syntax.{w128}
use mir.Val.{to_z, of_z}
use Rattle.std.specs.Prelude.{ℤ}
use Rattle.std.proofs.lemmas.Int.{to_z-of_z}
use Rattle.number_words.specs.Number.{clamped}
use Rattle.certificate_lines.specs.Head.{numbers, plain_ahead}
use Rattle.certificate_lines.proofs.leaf.value_list.Goals as goal

pub loop-word-preserved : goal.loop-word-preserved
loop-word-preserved c =
    let kept = c.loop-word.values.items in
    let behind = map clamped (numbers c.next.new.self) in
    record {
      plain = c.in-Some-behind_number.ensures.walked c.next.new.self ∙ ap (plain_ahead (Some c.loop-word.walk)) (sym c.in-Some.ensures.steps) ∙ c.loop-word.invariant.plain;
      whole = ap (λ (vs : List ℤ). vs ++ behind) c.in_ok-push.ensures.items
          ∙ append_assoc kept (to_z w128 (of_z w128 c.number.result) ∷ []) behind
          ∙ ap (λ v. kept ++ v ∷ behind) (to_z-of_z w128 c.number.result (record { sfits = c.number.type_inv }) ∙ c.number.ensures)
          ∙ ap (λ ws. kept ++ map clamped (numbers ws)) (sym c.in-Some.ensures.steps)
          ∙ c.loop-word.invariant.whole;
    }
