-- A box is split on a site, which a plan opens or doesn't, or on a lane, which it uses or doesn't.
use Rattle.std.specs.Prelude.{ℕ, List, Contains}
use Rattle.location_terms.specs.declared.decision.Decision.{Decision}
use Rattle.location_terms.specs.declared.decision.Decision.TheVariants.{Opened, Closed, Yes, No}
use Rattle.location_terms.specs.declared.split.Split.{Split}
use Rattle.location_terms.specs.declared.split.Split.TheVariants.{Site, Lane}

-- the decision of the first child, and of the second: of each plan just one of them is true
abbrev pub first_step : Split → Decision
first_step (Site s) = Closed s
first_step (Lane s c) = No s c

abbrev pub second_step : Split → Decision
second_step (Site s) = Opened s
second_step (Lane s c) = Yes s c

-- the split names a site, and a customer, of these
abbrev pub IsSplitAmong : List ℕ → List ℕ → Split → Type 0
IsSplitAmong sites customers (Site s) = Contains sites s
IsSplitAmong sites customers (Lane s c) = Contains sites s × Contains customers c
