-- When two boxes of two instances have the same slack and the same share of a site.
use Rattle.std.proofs.Common.{◌≡◌, ℕ, ◌<◌, ◌+◌, refl, ap, ◌∙◌, arith, Bool, List, [], ◌∷◌, length, get_or, zero, suc, pos, ◌+ℤ◌, ◌-ℤ◌}
use Rattle.std.specs.Prelude.{◌*◌, ◌&&◌, ◌||◌, not, is_some, unwrap_or, slice_index_or, if◌then◌else◌}
use Rattle.std.specs.Int.{int_max, int_min}
use Rattle.std.specs.List.{list_any}
use Rattle.location_terms.specs.Instance.{Instance, Customer, site_at, customer_at, lane}
use Rattle.location_terms.specs.Box.{Path, closes_site, opens_site, bars_lane, must_open, must_close, is_closed, is_called_for, is_opened, is_free, is_torn, holds_demand}
use Rattle.location_terms.specs.Bound.{Duals, u_at, total, paid_at, cap_price, slack_of, share_of}
use Rattle.location_terms.proofs.Totals.{total_same}

-- tests that agree by place find alike
pub any_same : {A : Type 0} (f g : A → Bool) (d : A) (xs ys : List A) → length xs ≡ length ys → ((i : ℕ) → i < length xs → f (get_or xs i d) ≡ g (get_or ys i d)) → list_any f xs ≡ list_any g ys
any_same f g d [] [] e h = refl
any_same f g d [] (y ∷ ys) e h = absurd (omega (arith, e))
any_same f g d (x ∷ xs) [] e h = absurd (omega (arith, e))
any_same f g d (x ∷ xs) (y ∷ ys) e h =
    let first : f x ≡ g y = h zero (omega arith) in
    let rest : list_any f xs ≡ list_any g ys = any_same f g d xs ys (omega (arith, e)) (λ i b. h (suc i) (omega (arith, b))) in
    λ k. first k || rest k

-- the path and the status settle the same of the sites at this place
pub record IsSettledAlike (I : Instance) (p : Path) (J : Instance) (r : Path) (i : ℕ) : Type 0 where
  pub status : (site_at I i).status ≡ (site_at J i).status
  pub closes : list_any (closes_site (site_at I i).id) p ≡ list_any (closes_site (site_at J i).id) r
  pub opens : list_any (opens_site (site_at I i).id) p ≡ list_any (opens_site (site_at J i).id) r

module _ (I : Instance) (p : Path) (J : Instance) (r : Path) (i : ℕ) (h : IsSettledAlike I p J r i) where
  pub closed_alike : is_closed p (site_at I i) ≡ is_closed r (site_at J i)
  closed_alike = λ k. must_close (h.status k) || h.closes k

  pub called_alike : is_called_for p (site_at I i) ≡ is_called_for r (site_at J i)
  called_alike = λ k. must_open (h.status k) || h.opens k

  pub opened_alike : is_opened p (site_at I i) ≡ is_opened r (site_at J i)
  opened_alike = λ k. called_alike k && not (closed_alike k)

  pub free_alike : is_free p (site_at I i) ≡ is_free r (site_at J i)
  free_alike = λ k. not (called_alike k) && not (closed_alike k)

-- where that is so of each site, both boxes are torn or none
pub torn_alike : (I : Instance) (p : Path) (J : Instance) (r : Path) → length I.sites ≡ length J.sites → ((i : ℕ) → i < length I.sites → IsSettledAlike I p J r i) → is_torn I p ≡ is_torn J r
torn_alike I p J r same h =
    any_same (λ s. is_called_for p s && is_closed p s) (λ s. is_called_for r s && is_closed r s) _ I.sites J.sites same (λ i b. λ k. called_alike I p J r i (h i b) k && closed_alike I p J r i (h i b) k)

-- all that what is paid at the site at this place is made of is the same
pub record IsPaidAlike (I : Instance) (p : Path) (d : Duals) (J : Instance) (r : Path) (e : Duals) (i : ℕ) : Type 0 where
  pub cap : (site_at I i).cap ≡ (site_at J i).cap
  pub settled : IsSettledAlike I p J r i
  pub torn : is_torn I p ≡ is_torn J r
  pub customers : I.customers ≡ J.customers
  pub lanes : (c : ℕ) → lane I (site_at I i).id c ≡ lane J (site_at J i).id c
  pub bars : (j : ℕ) → j < length I.customers → list_any (bars_lane (site_at I i).id (customer_at I j).id) p ≡ list_any (bars_lane (site_at J i).id (customer_at J j).id) r
  pub q : d.q ≡ e.q
  pub v : d.v ≡ e.v
  pub u : u_at d i ≡ u_at e i

module _ (I : Instance) (p : Path) (d : Duals) (J : Instance) (r : Path) (e : Duals) (i : ℕ) (h : IsPaidAlike I p d J r e i) where
  customer_same : (j : ℕ) → customer_at I j ≡ customer_at J j
  customer_same j = ap (λ (cs : List Customer). slice_index_or cs j (record { id = 0; demand = 0 })) h.customers

  lane_same : (j : ℕ) → lane I (site_at I i).id (customer_at I j).id ≡ lane J (site_at J i).id (customer_at J j).id
  lane_same j = h.lanes (customer_at I j).id ∙ ap (λ (c : Customer). lane J (site_at J i).id c.id) (customer_same j)

  paid_same : (j : ℕ) → j < length I.customers → paid_at I p d i j ≡ paid_at J r e i j
  paid_same j b = λ k.
      if not (h.torn k) && is_some (lane_same j k) && not (closed_alike I p J r i h.settled k) && not (h.bars j b k) && holds_demand (h.cap k) (customer_same j k).demand
      then int_max (pos 0) (slice_index_or (h.v k) j (pos 0) -ℤ pos (h.q k * unwrap_or (lane_same j k) 0 + h.u k * (customer_same j k).demand))
      else pos 0

  pub paid_alike : total (paid_at I p d i) (length I.customers) ≡ total (paid_at J r e i) (length J.customers)
  paid_alike = total_same (paid_at I p d i) (paid_at J r e i) (length I.customers) paid_same ∙ ap (λ (cs : List Customer). total (paid_at J r e i) (length cs)) h.customers

-- all that the slack of the site at this place is made of is the same
pub record IsMadeAlike (I : Instance) (p : Path) (d : Duals) (J : Instance) (r : Path) (e : Duals) (i : ℕ) : Type 0 where
  pub site : site_at I i ≡ site_at J i
  pub settled : IsSettledAlike I p J r i
  pub torn : is_torn I p ≡ is_torn J r
  pub customers : I.customers ≡ J.customers
  pub lanes : (c : ℕ) → lane I (site_at I i).id c ≡ lane J (site_at J i).id c
  pub bars : (j : ℕ) → j < length I.customers → list_any (bars_lane (site_at I i).id (customer_at I j).id) p ≡ list_any (bars_lane (site_at J i).id (customer_at J j).id) r
  pub q : d.q ≡ e.q
  pub nu : d.nu ≡ e.nu
  pub v : d.v ≡ e.v
  pub u : u_at d i ≡ u_at e i

module _ (I : Instance) (p : Path) (d : Duals) (J : Instance) (r : Path) (e : Duals) (i : ℕ) (h : IsMadeAlike I p d J r e i) where
  pub slack_alike : slack_of I p d i ≡ slack_of J r e i
  slack_alike =
      let all = paid_alike I p d J r e i (record { cap = λ k. (h.site k).cap; settled = h.settled; torn = h.torn; customers = h.customers; lanes = h.lanes; bars = h.bars; q = h.q; v = h.v; u = h.u }) in
      λ k. ((pos (h.q k * (h.site k).fixed) +ℤ h.nu k) -ℤ pos (cap_price (h.u k) (h.site k).cap)) -ℤ all k

  pub share_alike : share_of I p d i ≡ share_of J r e i
  share_alike = λ k. if opened_alike I p J r i h.settled k then slack_alike k else (if free_alike I p J r i h.settled k then int_min (pos 0) (slack_alike k) else pos 0)
