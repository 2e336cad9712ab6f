-- How an order is stored: for each customer a list of lanes by the places of their sites, each list with room for more, and
-- empty lists for customers to come.
use Rattle.std.specs.Prelude.{◌+◌, ◌-◌, ◌≤◌, map, length, All, vec_len, vec_capacity}
use Rattle.std.specs.List.Sorted.{IsStrictlyIncreasing}
use Rattle.location_terms.specs.declared.limits.TheConstants.{MAX_SITES}
use Rattle.lane_order.specs.Order.{Order}
use Rattle.lane_order.specs.Placed.{named}
use Rattle.lane_order.specs.Listed.{IsList, IsFresh}
use Rattle.lane_order.specs.declared.order.LaneOrder.TheInside.{Inside}

abbrev pub stored_order : Inside → Order
stored_order a = record { sites = a.site_ids.items; lanes = map (λ l. map (named a.site_ids.items) l.lanes) a.lists.items; spare = a.spare }

pub record IsStored (a : Inside) : Type 0 where
  pub rising : IsStrictlyIncreasing a.site_ids.items
  pub few : length a.site_ids.items ≤ MAX_SITES
  pub lists : All (IsList (length a.site_ids.items) a.spare) a.lists.items
  pub fresh : All (IsFresh (length a.site_ids.items + a.spare)) a.fresh.items
  pub site_room : a.spare ≤ vec_capacity a.site_ids - vec_len a.site_ids
  pub list_room : a.spare ≤ vec_capacity a.lists - vec_len a.lists
  pub fresh_room : a.spare ≤ vec_len a.fresh
