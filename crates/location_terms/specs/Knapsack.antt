-- What a site collects from whole customers, where prices would let it collect from customers in part: the best set of them within its capacity
-- (Holmberg, Rönnqvist and Yuan, European Journal of Operational Research 113, 1999).
use Rattle.std.specs.Prelude.{◌==◌, ℕ, zero, suc, ◌*◌, ◌/◌, ◌%◌, Bool, true, List, [], ◌∷◌, ◌++◌, length, map, filter, fold, sum_by, Option, None, Some, unwrap_or, ℤ, pos, ◌+ℤ◌, ◌-ℤ◌, min, nat_le, if◌then◌else◌}
use Rattle.std.specs.Int.{int_max}
use Rattle.std.specs.List.{list_all, range_with_len}
use Rattle.location_terms.specs.declared.limits.TheConstants.{MAX_UNITS}
use Rattle.location_terms.specs.Instance.{Instance, site_at, customer_at, lane}
use Rattle.location_terms.specs.Box.{Path, is_allowed, holds_demand}
use Rattle.location_terms.specs.Bound.{Duals, v_at}

-- the sets of the elements of a list: with the first of them or without it
abbrev pub sets_of : List ℕ → List (List ℕ)
sets_of [] = [] ∷ []
sets_of (j ∷ js) = sets_of js ++ map (λ set. j ∷ set) (sets_of js)

-- the customers, by place, whom the box lets the site serve
abbrev pub servable : Instance → Path → ℕ → List ℕ
servable I path i = filter (λ j. is_allowed I path (site_at I i) (customer_at I j)) (range_with_len 0 (length I.customers))

-- what the customers of a set demand together
abbrev pub demand_of_set : Instance → List ℕ → ℕ
demand_of_set I set = sum_by (λ j. (customer_at I j).demand) set

-- what a customer's dual pays above the scaled cost of its lane from the site; below 0 where it pays less
abbrev pub surplus_at : Instance → Duals → ℕ → ℕ → ℤ
surplus_at I d i j = v_at d j -ℤ pos (d.q * unwrap_or (lane I (site_at I i).id (customer_at I j).id) 0)

-- what the customers of a set pay together
abbrev pub worth_of : Instance → Duals → ℕ → List ℕ → ℤ
worth_of I d i [] = pos 0
worth_of I d i (j ∷ set) = surplus_at I d i j +ℤ worth_of I d i set

-- the sets of customers that the site may serve together: their demands fit into its capacity, where it has one
abbrev pub sets_that_fit : Instance → Path → ℕ → List (List ℕ)
sets_that_fit I path i = filter (λ set. holds_demand (site_at I i).cap (demand_of_set I set)) (sets_of (servable I path i))

-- the greatest worth of a set that fits; the empty set fits, so it is at least 0
unfoldable pub best_set : Instance → Path → Duals → ℕ → ℤ
best_set I path d i = fold (λ best set. int_max best (worth_of I d i set)) (pos 0) (sets_that_fit I path i)

-- Small knapsacks.

-- what all customers demand together
abbrev pub whole_demand : Instance → ℕ
whole_demand I = sum_by (λ c. c.demand) I.customers

-- the number divides the demand of every customer
abbrev pub divides_demands : Instance → ℕ → Bool
divides_demands I n = list_all (λ c. c.demand % n == 0) I.customers

-- the greatest number from 1 to a limit that passes a test, and 0 where none does
unfoldable pub greatest_up_to : (ℕ → Bool) → ℕ → ℕ
greatest_up_to test zero = 0
greatest_up_to test (suc n) = if test (suc n) then suc n else greatest_up_to test n

-- the unit of the demands, their greatest common divisor; 0 where nobody demands anything
abbrev pub demand_unit : Instance → ℕ
demand_unit I = greatest_up_to (divides_demands I) (whole_demand I)

-- of a capacity, as much as may be asked for is at most so many units
abbrev pub holds_few_units : Instance → Option ℕ → Bool
holds_few_units I None = true
holds_few_units I (Some cap) = nat_le (min cap (whole_demand I) / demand_unit I) MAX_UNITS

-- The knapsacks are small, so that a limit on the instance is one on the work for a leaf: each capacity holds few units, or nobody demands anything.
unfoldable pub has_small_knapsacks : Instance → Bool
has_small_knapsacks I = if whole_demand I == 0 then true else list_all (λ s. holds_few_units I s.cap) I.sites
