use Rattle.std.proofs.Common.{◌≡◌, sym, subst, ◌∙◌}
use Rattle.std.specs.Prelude.{All}
use Rattle.location_terms.specs.declared.form.LeafForm.TheVariants.{Prices}
use Rattle.location_terms.specs.Box.{Path}
use Rattle.location_terms.specs.Bound.{Duals}
use Rattle.leaf_book.proofs.Placed.{all_ahead, first_ahead}
use Rattle.leaf_book.proofs.places.is_by_prices.Goals as goal

pub loop-walk-preserved : goal.loop-walk-preserved
loop-walk-preserved c =
    let P : Path × Duals → Type 0 = λ a. a.1.form ≡ Prices in
    let l : Path × Duals = (c.leaf.result.0.now, c.leaf.result.1.now) in
    let moved = c.in_ok-pass-in-Prices.ensures in
    let form : P l = sym c.form.ensures ∙ c.in-Prices.is in (
      λ all. c.loop-walk.invariant.0 (all_ahead P c.loop-walk.walk l c.leaf.ensures form (subst (All P) moved all)),
      λ by. subst (All P) (sym moved) (first_ahead P c.loop-walk.walk l c.leaf.ensures (c.loop-walk.invariant.1 by)).1,
    )
