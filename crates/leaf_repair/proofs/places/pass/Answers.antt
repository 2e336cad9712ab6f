use Rattle.std.proofs.Common.{rules, ◌<◌, ◌∷◌, [], ℕ, sym, subst, arith, length, take, slice_index}
use Rattle.std.specs.Prelude.{All}
use Rattle.std.proofs.lemmas.List.{take_more}
use Rattle.std.proofs.lemmas.List.Elements.{All-nil, All-cons, All-append}
use Rattle.leaf_repair.proofs.places.pass.Goals as goal

pub loop-at-preserved : goal.loop-at-preserved
loop-at-preserved c =
    let at = c.loop-at.at in
    let before = c.args.before.now in
    let P : ℕ → Type 0 = λ x. x < c.args.id in
    let inside : at < length before = omega arith in
    let here : P (slice_index before at) = search rules in
    record {
      within = omega arith;
      less = subst (All P) (sym (take_more before at 0 inside)) (All-append P (take at before) (slice_index before at ∷ []) c.loop-at.invariant.less (All-cons P (slice_index before at) [] here (All-nil P)));
    }
