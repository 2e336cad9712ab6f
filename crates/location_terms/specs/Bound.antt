-- The dual bound of a box by prices: the condensed dual of Erlenkotter, Operations Research 26 (1978), with its constraints priced,
-- scaled by q, with a multiplier for each capacity and one for the number of open sites.
use Rattle.std.specs.Prelude.{◌≡◌, ℕ, ◌+◌, ◌*◌, ◌<◌, zero, suc, List, length, Option, None, Some, unwrap_or, ℤ, pos, negsuc, ◌+ℤ◌, ◌-ℤ◌, ◌*ℤ◌, slice_index, slice_index_or, if◌then◌else◌}
use Rattle.std.specs.Int.{int_max, int_min}
use Rattle.location_terms.specs.declared.form.LeafForm.{LeafForm}
use Rattle.location_terms.specs.Instance.{Instance, site_at, customer_at, lane}
use Rattle.location_terms.specs.Box.{Path, is_allowed, is_opened, is_free}

-- the form in which a leaf takes them, a scale, a price on the number of sites, a dual for each customer and a price for each capacity, by place
pub record Duals : Type 0 where
  pub form : LeafForm
  pub q : ℕ
  pub nu : ℤ
  pub v : List ℤ
  pub u : List ℕ

abbrev pub v_at : Duals → ℕ → ℤ
v_at d j = slice_index_or d.v j (pos 0)

abbrev pub u_at : Duals → ℕ → ℕ
u_at d i = slice_index d.u i

-- a dual for each customer of the instance, a price for each site's capacity, and none where there is no capacity
pub record AreDualsOf (I : Instance) (d : Duals) : Type 0 where
  pub customers : length d.v ≡ length I.customers
  pub sites : length d.u ≡ length I.sites
  pub unpriced : (i : ℕ) → i < length I.sites → (site_at I i).cap ≡ None → u_at d i ≡ 0

-- f 0 + f 1 + .. + f (n - 1)
unfoldable pub total : (ℕ → ℤ) → ℕ → ℤ
total f zero = pos 0
total f (suc n) = total f n +ℤ f n

-- what the lane costs at the prices: q times its cost, and the price of the demand that it takes of the capacity
abbrev pub level_at : Instance → Duals → ℕ → ℕ → ℤ
level_at I d i j = pos (d.q * unwrap_or (lane I (site_at I i).id (customer_at I j).id) 0 + u_at d i * (customer_at I j).demand)

-- what the customer's dual pays above the level of an allowed lane
abbrev pub paid_at : Instance → Path → Duals → ℕ → ℕ → ℤ
paid_at I path d i j = if is_allowed I path (site_at I i) (customer_at I j) then int_max (pos 0) (v_at d j -ℤ level_at I d i j) else pos 0

-- the price of a capacity, 0 where there is none
abbrev pub cap_price : ℕ → Option ℕ → ℕ
cap_price u None = 0
cap_price u (Some cap) = u * cap

-- what is left of the site's scaled fixed cost, its slack; by prices, whatever the form of the duals is, as all that follows
abbrev pub slack_of : Instance → Path → Duals → ℕ → ℤ
slack_of I path d i = ((pos (d.q * (site_at I i).fixed) +ℤ d.nu) -ℤ pos (cap_price (u_at d i) (site_at I i).cap)) -ℤ total (paid_at I path d i) (length I.customers)

-- what a site adds to the bound: its slack where it is opened, that but nothing above 0 where it is free, nothing where it is closed
abbrev pub share_of : Instance → Path → Duals → ℕ → ℤ
share_of I path d i = if is_opened path (site_at I i) then slack_of I path d i else (if is_free path (site_at I i) then int_min (pos 0) (slack_of I path d i) else pos 0)

-- what the price on the number of sites comes to: paid hi times, or lo times where it is below 0
abbrev pub count_price : Instance → ℤ → ℤ
count_price I (pos n) = pos (n * I.hi)
count_price I (negsuc n) = negsuc n *ℤ pos I.lo

-- q times the cost of each feasible plan of the box is at least this
abbrev pub bound_of : Instance → Path → Duals → ℤ
bound_of I path d = (total (v_at d) (length I.customers) -ℤ count_price I d.nu) +ℤ total (share_of I path d) (length I.sites)
