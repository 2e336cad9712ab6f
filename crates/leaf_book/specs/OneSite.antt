-- For private functions alone: no public contract cites this page.
-- The slack of one site before a change of one of its amounts, and what the change makes of it.
use Rattle.std.specs.Prelude.{◌≡◌, ℕ, ◌+◌, ◌*◌, ◌&&◌, not, Bool, Option, None, Some, ℤ, pos, ◌-ℤ◌, if◌then◌else◌}
use Rattle.std.specs.Int.{int_max}
use Rattle.std.specs.List.{list_any}
use Rattle.location_terms.specs.Instance.{Instance, Site, Customer, site_at, customer_at}
use Rattle.location_terms.specs.Box.{Path, is_torn, is_closed, bars_lane, holds_demand}
use Rattle.location_terms.specs.Bound.{Duals, v_at, u_at, slack_of}
use Rattle.instance_store.specs.Changes.{with_fixed, with_lane_cost}
use Rattle.leaf_book.specs.declared.change.Change.{Change}
use Rattle.leaf_book.specs.declared.change.Change.TheVariants.{Fixed, Lane, Site as AtSite, Count, All}

-- the box lets the site serve the customer wherever there is a lane
abbrev pub is_open_to : Instance → Path → Site → Customer → Bool
is_open_to I path s c = not (is_torn I path) && not (is_closed path s) && not (list_any (bars_lane s.id c.id) path) && holds_demand s.cap c.demand

-- by how much a dual is above the level of a lane of this cost, for this demand, at a scale and a price of the capacity: 0 where it is below, or there is no lane
abbrev pub over_level : ℕ → ℕ → ℤ → ℕ → Option ℕ → ℤ
over_level q price value demand None = pos 0
over_level q price value demand (Some cost) = int_max (pos 0) (value -ℤ pos (q * cost + price * demand))

-- what the customer's dual pays at the site if the lane costs so much
abbrev pub paid_with : Instance → Path → Duals → ℕ → ℕ → Option ℕ → ℤ
paid_with I path d i j cost = if is_open_to I path (site_at I i) (customer_at I j) then over_level d.q (u_at d i) (v_at d j) (customer_at I j).demand cost else pos 0

-- the change is one of the slack of the site of this id
abbrev pub IsOfSite : Change → ℕ → Type 0
IsOfSite (Fixed t cost) s = t ≡ s
IsOfSite (Lane t c cost) s = t ≡ s
IsOfSite (AtSite t) s = t ≡ s
IsOfSite Count s = ⊥
IsOfSite All s = ⊥

-- where the change is of one amount, this is the slack of the site at the place before it
abbrev pub IsFormerSlack : Change → Instance → Path → Duals → ℕ → ℤ → Type 0
IsFormerSlack (Fixed s cost) I path d i old = ((site_at I i).id ≡ s) × (old ≡ slack_of (with_fixed I s cost) path d i)
IsFormerSlack (Lane s c cost) I path d i old = ((site_at I i).id ≡ s) × (old ≡ slack_of (with_lane_cost I s c cost) path d i)
IsFormerSlack (AtSite s) I path d i old = Unit {0}
IsFormerSlack Count I path d i old = Unit {0}
IsFormerSlack All I path d i old = Unit {0}
