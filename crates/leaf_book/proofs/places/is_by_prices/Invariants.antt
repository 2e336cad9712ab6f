use Rattle.std.proofs.Common.{◌≡◌, ◌↔◌, length}
use Rattle.std.specs.Prelude.{All}
use Rattle.location_terms.specs.declared.form.LeafForm.TheVariants.{Prices}
use Rattle.leaf_book.specs.Book.{IsByPrices}
use Rattle.leaf_book.proofs.places.is_by_prices.Given as goal

-- the leaves ahead decide
abbrev pub invariant-loop-walk : goal.invariant-loop-walk
invariant-loop-walk l = All (λ a. a.1.form ≡ Prices) l.walk ↔ IsByPrices l.tree

abbrev pub decreases-loop-walk : goal.decreases-loop-walk
decreases-loop-walk l = length l.walk
