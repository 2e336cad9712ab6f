use Rattle.std.proofs.Common.{◌≡◌, ℕ, List, map}
use Rattle.std.specs.Prelude.{filter}
use Rattle.std.specs.List.{range_with_len}
use Rattle.location_terms.specs.Instance.{customer_at}
use Rattle.dual_adjust.specs.Slackness.{is_violating}
use Rattle.dual_adjust.specs.Paid.{ArePlacesOf}
use Rattle.dual_adjust.proofs.slackness.violating.Given as goal

abbrev pub invariant-loop-cust : goal.invariant-loop-cust
invariant-loop-cust l = (ids : List ℕ) → ArePlacesOf l.boxed.instance ids l.places
    → l.custs.items ≡ map (λ j. (customer_at l.boxed.instance j).id) (filter (is_violating l.boxed.instance l.boxed.path l.duals ids) (range_with_len 0 l.cust))
