-- For private functions alone: no public contract cites this page.
-- From where a customer can be served in a box.
use Rattle.std.specs.Prelude.{◌≡◌, ℕ, ◌<◌, IsTrue, length, Option, None, Some}
use Rattle.location_terms.specs.Instance.{Instance, site_at, customer_at}
use Rattle.location_terms.specs.Box.{Path, is_allowed}
use Rattle.dual_ascent.specs.Levels.{servers}
use Rattle.tree_search.specs.declared.serving.Service.{Service}
use Rattle.tree_search.specs.declared.serving.Service.TheVariants.{Nowhere, Only, Several}

-- the box allows the customer no lane, this one alone, or this one and another
abbrev pub IsServiceOf : Instance → Path → ℕ → Service → Type 0
IsServiceOf I path j Nowhere = length (servers I path j) ≡ 0
IsServiceOf I path j (Only i) = (i < length I.sites) × IsTrue (is_allowed I path (site_at I i) (customer_at I j)) × (length (servers I path j) ≡ 1)
IsServiceOf I path j (Several i) = (i < length I.sites) × IsTrue (is_allowed I path (site_at I i) (customer_at I j)) × (1 < length (servers I path j))

-- what is known at the end of a walk that found at most one
abbrev pub only : Option ℕ → Service
only None = Nowhere
only (Some i) = Only i

-- the one site, where there is just one
abbrev pub only_site : Service → Option ℕ
only_site Nowhere = None
only_site (Only i) = Some i
only_site (Several i) = None
