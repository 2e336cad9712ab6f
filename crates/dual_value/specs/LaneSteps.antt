-- The steps of a path that name a customer, chained from the last to the first. A step is its place and 1 more, and 0 is no step.
use Rattle.std.specs.Prelude.{◌≡◌, ℕ, ◌+◌, ◌<◌, ◌≤◌, List, length, slice_index_or, Option, Some, None}
use Rattle.location_terms.specs.Instance.{Instance, customer_at}
use Rattle.location_terms.specs.Box.{Path}
use Rattle.location_terms.specs.declared.decision.Decision.{Decision}
use Rattle.location_terms.specs.declared.decision.Decision.TheVariants.{Opened, Closed, Yes, No}

-- the customer to whom the decision takes lanes away
abbrev pub named_customer : Decision → Option ℕ
named_customer (Opened s) = None
named_customer (Closed s) = None
named_customer (Yes s c) = Some c
named_customer (No s c) = Some c

-- the step at this place names the customer
abbrev pub Names : Path → ℕ → ℕ → Type 0
Names path c k = named_customer (slice_index_or path k (Opened 0)) ≡ Some c

-- the last of the first so many steps that names the customer
pub record IsLast (path : Path) (c from last : ℕ) : Type 0 where
  pub within : last ≤ from
  pub names : (k : ℕ) → last ≡ k + 1 → Names path c k
  pub none : (k : ℕ) → last ≤ k → k < from → Names path c k → ⊥

-- all steps that name the customer, from the last one on
pub record IsChain (path : Path) (befores : List ℕ) (c last : ℕ) : Type 0 where
  pub start : IsLast path c (length path) last
  pub next : (k : ℕ) → k < length path → Names path c k → (k < length befores) × IsLast path c k (slice_index_or befores k 0)

-- the same of each customer, by place
abbrev pub AreChains : Instance → Path → List ℕ → List ℕ → Type 0
AreChains I path lasts befores = (j : ℕ) → j < length I.customers → IsChain path befores (customer_at I j).id (slice_index_or lasts j 0)
