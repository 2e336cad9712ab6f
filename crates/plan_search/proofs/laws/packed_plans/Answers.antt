use Rattle.plan_search.proofs.Feasible.{packed_feasible, packed_in_box}
use Rattle.plan_search.proofs.Cheapest.{packed_cheapest, never_none}
use Rattle.plan_search.proofs.laws.packed_plans.Goals as goal

pub returns-clause-feasible : goal.returns-clause-feasible
returns-clause-feasible c = λ I path hint P valid known is. packed_feasible I path hint valid P is

pub returns-clause-in_box : goal.returns-clause-in_box
returns-clause-in_box c = λ I path hint P valid known is. packed_in_box I path hint valid P is known

pub returns-clause-cheapest : goal.returns-clause-cheapest
returns-clause-cheapest c = λ I path hint P valid known no_caps settled is. packed_cheapest I path hint valid known no_caps settled P is

pub returns-clause-none : goal.returns-clause-none
returns-clause-none c = λ I path hint Q valid known no_caps settled none can box. never_none I path hint valid no_caps settled Q can box none
