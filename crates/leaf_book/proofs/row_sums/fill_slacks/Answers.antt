use Rattle.std.proofs.Common.{◌≡◌, ◌≤◌, ◌∷◌, [], ◌++◌, sym, subst, ◌∙◌, arith, ℤ}
use Rattle.std.specs.Prelude.{All}
use Rattle.std.specs.Int.RustNames.{unsigned_abs}
use Rattle.std.proofs.lemmas.List.Elements.{All-append, All-cons, All-nil}
use Rattle.std.proofs.lemmas.List.FromFn.{map-range_with_len_more}
use Rattle.location_terms.specs.Bound.{slack_of}
use Rattle.dual_value.specs.declared.bounds.TheConstants.{MAX_SLACK}
use Rattle.leaf_book.proofs.Moved.{bits, bits_small}
use Rattle.dual_value.proofs.Sizes.{kept}
use Rattle.leaf_book.proofs.row_sums.fill_slacks.Goals as goal

pub loop-site-preserved : goal.loop-site-preserved
loop-site-preserved g c =
    let k = c.loop-site.site in
    let f = slack_of c.args.inst.now c.args.path.now (g.D.DualsByPlace.numbers c.args.duals.now) in
    let P : ℤ → Type 0 = λ x. unsigned_abs x ≤ MAX_SLACK in
    let x : ℤ = c.slack.result in
    let items = c.push_reserved.ensures.items in
    let own : bits x ≡ f k = kept x MAX_SLACK c.slack.ensures.small (omega arith) ∙ c.slack.ensures.exact in
    record {
      exact = items ∙ (λ i. c.loop-site.invariant.exact i ++ own i ∷ []) ∙ sym (map-range_with_len_more f 0 k k (omega arith));
      small = subst (All P) (sym items) (All-append P c.loop-site.slacks.items (bits x ∷ []) c.loop-site.invariant.small (All-cons P (bits x) [] (bits_small x c.slack.ensures.small) (All-nil P)));
      len = omega (arith, c.push_reserved.ensures.len, c.loop-site.invariant.len);
      room = c.push_reserved.ensures.capacity ∙ c.loop-site.invariant.room;
    }
