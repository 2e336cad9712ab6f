-- What takes an edit back: the edit's kind and ids with what it replaced, and the instance that putting this back leads to.
use Rattle.std.specs.Prelude.{◌==◌, ℕ, ◌-◌, Bool, true, false, ◌&&◌, not, List, [], length, find, position, Option, None, Some, IsSomeAnd, unwrap_or, nat_le}
use Rattle.std.specs.List.{last_or}
use Rattle.std.specs.Option.{option_map_or}
use Rattle.std.specs.Bool.{then_some}
use Rattle.location_terms.specs.declared.status.SiteStatus.TheVariants.{Free}
use Rattle.location_terms.specs.Instance.{Instance, Site, IsValid, site_ids, customer_ids, lane, fixed_of, demand_of}
use Rattle.instance_edits.specs.declared.edit.Edit.{Edit}
use Rattle.instance_edits.specs.declared.edit.Edit.TheVariants.{SetFixed, SetLane, SetDemand, SetCap, SetCount, AddSite, AddCust, DropSite, DropCust, SetStatus}
use Rattle.instance_edits.specs.declared.edit.Inverse.{Inverse}
use Rattle.instance_edits.specs.declared.edit.Inverse.TheVariants.{FormerFixed, FormerLane, FormerDemand, FormerCap, FormerCount, AddedSite, AddedCust, DroppedSite, DroppedCust, FormerStatus}
use Rattle.instance_edits.specs.declared.edit.Touch.{Touch}
use Rattle.instance_edits.specs.declared.edit.Touch.TheVariants as touched
use Rattle.instance_store.specs.Changes.{with_fixed, with_cap, with_status, with_demand, with_lane_cost, with_count, with_site_in, with_customer_in, without_site, without_customer, site_row, column_of}
use Rattle.instance_edits.specs.Edits.{lacks_site, lacks_customer}

-- What an edit replaces.

-- the site of this id
abbrev pub site_named : Instance → ℕ → Site
site_named I s = unwrap_or (find (λ x. x.id == s) I.sites) (record { id = s; fixed = 0; cap = None; status = Free })

-- the place of an id among ids, counted from 0
abbrev pub place_among : List ℕ → ℕ → ℕ
place_among ids id = unwrap_or (position (λ x. x == id) ids) 0

-- what takes the edit back once this instance accepted it
abbrev pub inverse_of : Instance → Edit → Inverse
inverse_of I (SetFixed s cost) = FormerFixed s (fixed_of I s)
inverse_of I (SetLane s c cost) = FormerLane s c (lane I s c)
inverse_of I (SetDemand c demand) = FormerDemand c (demand_of I c)
inverse_of I (SetCap s cap) = FormerCap s (site_named I s).cap
inverse_of I (SetCount lo hi) = FormerCount I.lo I.hi
inverse_of I (AddSite cost cap row) = AddedSite I.next_site
inverse_of I (AddCust demand column) = AddedCust I.next_customer
inverse_of I (DropSite s) = DroppedSite (place_among (site_ids I) s) (site_row I (site_named I s)) (site_named I s).status
inverse_of I (DropCust c) = DroppedCust (place_among (customer_ids I) c) (record { id = c; demand = demand_of I c }) (column_of I c)
inverse_of I (SetStatus s status) = FormerStatus s (site_named I s).status

-- What it puts back.

-- whether the id is the last of the ids
abbrev pub is_last : List ℕ → ℕ → Bool
is_last ids id = option_map_or (λ x. x == id) (last_or None ids) false

-- Whether ids and places suit the instance: a former value is that of a site and a customer who are there, what came is the last, and what went fits in at its
-- place with a lane or none for each of the others.
abbrev pub suits : Instance → Inverse → Bool
suits I (FormerFixed s cost) = not (lacks_site I s)
suits I (FormerLane s c cost) = not (lacks_site I s) && not (lacks_customer I c)
suits I (FormerDemand c demand) = not (lacks_customer I c)
suits I (FormerCap s cap) = not (lacks_site I s)
suits I (FormerCount lo hi) = true
suits I (AddedSite s) = is_last (site_ids I) s
suits I (AddedCust c) = is_last (customer_ids I) c
suits I (DroppedSite place row status) = nat_le place (length I.sites) && length row.lanes == length I.customers
suits I (DroppedCust place row lanes) = nat_le place (length I.customers) && length lanes == length I.sites
suits I (FormerStatus s status) = not (lacks_site I s)

-- the instance once this is put back: a former value stands again, what came goes and the next id falls by one, and what went stands at its place again with its lanes
abbrev pub put_back : Instance → Inverse → Instance
put_back I (FormerFixed s cost) = with_fixed I s cost
put_back I (FormerLane s c cost) = with_lane_cost I s c cost
put_back I (FormerDemand c demand) = with_demand I c demand
put_back I (FormerCap s cap) = with_cap I s cap
put_back I (FormerCount lo hi) = with_count I lo hi
put_back I (AddedSite s) = record (without_site I s) { next_site = I.next_site - 1 }
put_back I (AddedCust c) = record (without_customer I c) { next_customer = I.next_customer - 1 }
put_back I (DroppedSite place row status) = with_site_in I place row status
put_back I (DroppedCust place row lanes) = with_customer_in I place row lanes
put_back I (FormerStatus s status) = with_status I s status

-- The instance to which this leads back, where it suits. That alone makes no instance valid: an edit may be taken back where the instance to which it leads is.
abbrev pub undone : Instance → Inverse → Option Instance
undone I b = then_some (suits I b) (put_back I b)

-- it leads back to a valid instance
abbrev pub LeadsBack : Instance → Inverse → Type 0
LeadsBack I b = IsSomeAnd (undone I b) IsValid

-- what went comes again: memory may run out
abbrev pub BringsBack : Inverse → Type 0
BringsBack (FormerFixed s cost) = ⊥
BringsBack (FormerLane s c cost) = ⊥
BringsBack (FormerDemand c demand) = ⊥
BringsBack (FormerCap s cap) = ⊥
BringsBack (FormerCount lo hi) = ⊥
BringsBack (AddedSite s) = ⊥
BringsBack (AddedCust c) = ⊥
BringsBack (DroppedSite place row status) = Unit {0}
BringsBack (DroppedCust place row lanes) = Unit {0}
BringsBack (FormerStatus s status) = ⊥

-- What it tells of the edit.

-- the kind and the ids of the edit
abbrev pub touch_of : Inverse → Touch
touch_of (FormerFixed s cost) = touched.Site s
touch_of (FormerLane s c cost) = touched.Lane s c
touch_of (FormerDemand c demand) = touched.Cust c
touch_of (FormerCap s cap) = touched.Site s
touch_of (FormerCount lo hi) = touched.Count
touch_of (AddedSite s) = touched.SiteIn s
touch_of (AddedCust c) = touched.CustIn c
touch_of (DroppedSite place row status) = touched.SiteOut row.id
touch_of (DroppedCust place row lanes) = touched.CustOut row.id
touch_of (FormerStatus s status) = touched.Site s

-- the former fixed cost, lane cost, demand or capacity, or the fixed cost or the demand of what went; none where there was none, or where the edit replaced something else
abbrev pub former_amount : Inverse → Option ℕ
former_amount (FormerFixed s cost) = Some cost
former_amount (FormerLane s c cost) = cost
former_amount (FormerDemand c demand) = Some demand
former_amount (FormerCap s cap) = cap
former_amount (FormerCount lo hi) = None
former_amount (AddedSite s) = None
former_amount (AddedCust c) = None
former_amount (DroppedSite place row status) = Some row.fixed
former_amount (DroppedCust place row lanes) = Some row.demand
former_amount (FormerStatus s status) = None

-- the lanes of what went, in the order of the others; none where nothing went
abbrev pub former_lanes : Inverse → List (Option ℕ)
former_lanes (FormerFixed s cost) = []
former_lanes (FormerLane s c cost) = []
former_lanes (FormerDemand c demand) = []
former_lanes (FormerCap s cap) = []
former_lanes (FormerCount lo hi) = []
former_lanes (AddedSite s) = []
former_lanes (AddedCust c) = []
former_lanes (DroppedSite place row status) = row.lanes
former_lanes (DroppedCust place row lanes) = lanes
former_lanes (FormerStatus s status) = []
