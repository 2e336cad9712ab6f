-- A lane by the place of its site.
use Rattle.std.specs.Prelude.{ℕ, List, slice_index}
use Rattle.lane_order.specs.declared.order.PlacedLane.{PlacedLane}

-- the lane by its site's id, where these are the ids of the sites by place
abbrev pub named : List ℕ → PlacedLane → ℕ × ℕ
named ids lane = (lane.cost, slice_index ids lane.site)
