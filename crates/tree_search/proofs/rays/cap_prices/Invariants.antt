use Rattle.std.proofs.Common.{◌≡◌, ℕ, ◌<◌, ◌≤◌, length}
use Rattle.std.specs.Prelude.{All, None, slice_index}
use Rattle.location_terms.specs.Instance.{site_at}
use Rattle.location_terms.specs.declared.limits.TheConstants.{MAX_MULTIPLIER}
use Rattle.tree_search.proofs.rays.cap_prices.Given as goal

abbrev pub invariant-loop-site : goal.invariant-loop-site
invariant-loop-site l = record {
  long : length l.prices.items ≡ l.site;
  small : All (λ u. u ≤ MAX_MULTIPLIER) l.prices.items;
  unpriced : (i : ℕ) → i < l.site → (site_at l.inst i).cap ≡ None → slice_index l.prices.items i ≡ 0;
}
