-- For private functions alone: no public contract cites this page.
-- Open sites with their places, and the nearest of those that were looked at, with one more looked at.
use Rattle.std.specs.Prelude.{◌≡◌, ◌<◌, ℕ, length, Option, None, Some, nat_lt, if◌then◌else◌}
use Rattle.location_terms.specs.Instance.{Instance, site_at}

-- a site's id with the place at which it stands
abbrev pub IsAt : Instance → ℕ × ℕ → Type 0
IsAt I x = (x.1 < length I.sites) × ((site_at I x.1).id ≡ x.0)

-- the nearest of the sites before with what its lane costs, and one more site, which counts where it has a lane; the first where both cost as much
abbrev pub nearer_of : Option (ℕ × ℕ) → ℕ → Option ℕ → Option (ℕ × ℕ)
nearer_of best s None = best
nearer_of None s (Some cost) = Some (s, cost)
nearer_of (Some best) s (Some cost) = if nat_lt cost best.1 then Some (s, cost) else Some best
