-- The arrays in which ascents work.
use Rattle.std.specs.Prelude.{◌≡◌, ℕ, List, length, Option, ℤ}
use Rattle.location_terms.specs.Instance.{Instance}

-- a slack for each site, and for each customer the place of a site that blocked it last, by place
pub record Work : Type 0 where
  pub slacks : List ℤ
  pub blockers : List (Option ℕ)

-- the arrays are for instances of this size
pub record IsWorkFor (I : Instance) (w : Work) : Type 0 where
  pub slacks : length w.slacks ≡ length I.sites
  pub blockers : length w.blockers ≡ length I.customers
