-- How boxes without free sites are stored.
use Rattle.std.specs.Prelude.{◌≡◌, length}
use Rattle.dual_steps.specs.Sizes.{Sizes}
use Rattle.side_multipliers.specs.declared.transport.Transport.TheInside.{Inside}

abbrev pub transport_sizes : Inside → Sizes
transport_sizes a = record { sites = length a.rooms.items; customers = length a.guests.items }

-- each array has a place for each site, for each customer, or for each lane
pub record AreRooms (a : Inside) : Type 0 where
  pub saved_rooms : length a.saved_rooms.items ≡ length a.rooms.items
  pub rounded_prices : length a.rounded_prices.items ≡ length a.rooms.items
  pub demands : length a.demands.items ≡ length a.guests.items
  pub saved_flows : length a.saved_flows.items ≡ length a.flows.items
