-- What the forms of tables have in common: the numbers of sites and of customers, and rows of lane costs.
use Rattle.std.specs.Prelude.{ℕ, ◌+◌, ◌*◌, Bool, ◌&&◌, List, Option, Some, Result, Ok, nat_le}
use Rattle.location_terms.specs.declared.limits.TheConstants.{MAX_SITES, MAX_CUSTOMERS, MAX_LANES}
use Rattle.fixed_cost.specs.Reading.{Rest, ◌>>=◌, amount_at, size_at, is_within, many_at}
use Rattle.fixed_cost.specs.declared.fault.FileFault.{FileFault}
use Rattle.fixed_cost.specs.declared.fault.FileKind.TheVariants.{BadSize}

-- a number of customers that so many sites can have lanes to
abbrev pub is_customer_count : ℕ → ℕ → Bool
is_customer_count m n = is_within 1 MAX_CUSTOMERS n && nat_le (m * n) MAX_LANES

-- the number of sites and the number of customers
unfoldable pub sizes_at : Rest → Result ((ℕ × ℕ) × Rest) FileFault
sizes_at r = do
  m ← size_at BadSize (is_within 1 MAX_SITES) r
  n ← size_at BadSize (is_customer_count m.0) m.1
  Ok ((m.0, n.0), n.1)

-- a cost, as that of a lane
unfoldable pub lane_at : Rest → Result (Option ℕ × Rest) FileFault
lane_at r = do
  cost ← amount_at r
  Ok (Some cost.0, cost.1)

-- the costs of so many lanes
abbrev pub lanes_at : ℕ → Rest → Result (List (Option ℕ) × Rest) FileFault
lanes_at n r = many_at (λ _. lane_at) 0 n r
