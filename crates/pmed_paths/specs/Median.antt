-- The instance of a network: each vertex is a site and a customer, and the lanes are cheapest walks.
use Rattle.std.specs.Prelude.{◌≡◌, ℕ, ◌+◌, Bool, true, false, List, map, Option, None, Some, nat_lt}
use Rattle.std.specs.List.{range_with_len, list_any}
use Rattle.location_terms.specs.Instance.{Instance}
use Rattle.location_terms.specs.declared.limits.TheConstants.{MAX_AMOUNT}
use Rattle.instance_store.specs.Parts.{instance_of}
use Rattle.instance_store.specs.declared.rows.CustRow.{CustRow}
use Rattle.instance_store.specs.declared.rows.SiteRow.{SiteRow}
use Rattle.pmed_paths.specs.Network.{Network}
use Rattle.pmed_paths.specs.Walks.{least_costs}
use Rattle.pmed_paths.specs.declared.median.PathFault.{PathFault}
use Rattle.pmed_paths.specs.declared.median.PathFault.TheVariants.{TooBig, NoMemory}

-- a cost past every amount
abbrev pub is_past : Option ℕ → Bool
is_past None = false
is_past (Some cost) = nat_lt MAX_AMOUNT cost

-- whether some cheapest walk from a vertex costs more than an amount can be
abbrev pub is_far : Network → ℕ → Bool
is_far N a = list_any is_past (least_costs N a)

-- whether some cheapest walk does
unfoldable pub has_far_pair : Network → Bool
has_far_pair N = list_any (λ a. is_far N a) (range_with_len 1 N.vertices)

-- what the fault of a network says of it
abbrev pub FailsFor : PathFault → Bool → Type 0
FailsFor TooBig far = far ≡ true
FailsFor NoMemory far = Unit {0}

-- a vertex as a site that costs nothing to open, with a lane to each vertex that a walk leads to
abbrev pub vertex_row : Network → ℕ → SiteRow
vertex_row N a = record { id = a; fixed = 0; cap = None; lanes = least_costs N a }

-- the vertices as customers, who demand nothing
abbrev pub vertex_customers : ℕ → List CustRow
vertex_customers n = map (λ id. record { id = id; demand = 0 }) (range_with_len 1 n)

-- the instance in which as many vertices open as the network says
unfoldable pub median_instance : Network → Instance
median_instance N = instance_of N.medians N.medians (N.vertices + 1) (N.vertices + 1) (vertex_customers N.vertices) (map (λ a. vertex_row N a) (range_with_len 1 N.vertices))
