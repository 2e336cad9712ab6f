-- The levels of a customer: what its allowed lanes cost at the prices, and how far its dual reaches among them.
-- The dual ascent of Erlenkotter, Operations Research 26 (1978).
use Rattle.std.specs.Prelude.{ℕ, List, [], ◌∷◌, length, map, filter, Option, None, Some, ℤ, int_lt, int_le}
use Rattle.std.specs.List.{fold, range_with_len}
use Rattle.std.specs.Int.{int_min}
use Rattle.location_terms.specs.Instance.{Instance, site_at, customer_at}
use Rattle.location_terms.specs.Box.{Path, is_allowed}
use Rattle.location_terms.specs.Bound.{Duals, v_at, level_at}

-- the least of some numbers, where there is one
abbrev pub least : List ℤ → Option ℤ
least [] = None
least (x ∷ xs) = Some (fold int_min x xs)

-- the places of the sites, in the order of the instance
abbrev pub site_places : Instance → List ℕ
site_places I = range_with_len 0 (length I.sites)

-- the places of the customers, in the order of the instance
abbrev pub customer_places : Instance → List ℕ
customer_places I = range_with_len 0 (length I.customers)

-- the places of the sites with an allowed lane to the customer at j
abbrev pub servers : Instance → Path → ℕ → List ℕ
servers I path j = filter (λ i. is_allowed I path (site_at I i) (customer_at I j)) (site_places I)

-- the levels of the customer's allowed lanes
abbrev pub levels_of : Instance → Path → Duals → ℕ → List ℤ
levels_of I path d j = map (λ i. level_at I d i j) (servers I path j)

-- the least of these levels, where there is one
abbrev pub least_level : Instance → Path → Duals → ℕ → Option ℤ
least_level I path d j = least (levels_of I path d j)

-- the customer's next level: the least above its dual, where there is one
abbrev pub next_level : Instance → Path → Duals → ℕ → Option ℤ
next_level I path d j = least (filter (λ l. int_lt (v_at d j) l) (levels_of I path d j))

-- the places of the sites that the customer's dual reaches: those with an allowed lane of a level at most the dual
abbrev pub reached : Instance → Path → Duals → ℕ → List ℕ
reached I path d j = filter (λ i. int_le (level_at I d i j) (v_at d j)) (servers I path j)
