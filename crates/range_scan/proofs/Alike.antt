-- Instances that differ in what sites and lanes cost: what a box settles in them, and what costs that are the same come to.
use Rattle.std.proofs.Common.{◌≡◌, ◌≢◌, ℕ, ◌*◌, ◌+◌, ◌<◌, refl, ap, sym, ◌∙◌, arith, List, [], ◌∷◌, length, None, ℤ, pos, negsuc, ◌+ℤ◌, ◌-ℤ◌}
use Rattle.std.specs.Prelude.{◌&&◌, ◌||◌, not, fold, filter, is_some, unwrap_or, if◌then◌else◌}
use Rattle.std.specs.List.{list_any, range_with_len}
use Rattle.std.specs.Int.{int_max, int_min}
use Rattle.location_terms.specs.declared.form.LeafForm.{LeafForm}
use Rattle.location_terms.specs.declared.form.LeafForm.TheVariants.{Prices, Whole}
use Rattle.location_terms.specs.declared.status.SiteStatus.TheVariants.{Free}
use Rattle.location_terms.specs.Instance.{Instance, Site, Customer, Lanes, site_at, customer_at, site_ids, lane}
use Rattle.location_terms.specs.Box.{Path, closes_site, opens_site, bars_lane, must_open, must_close, is_closed, is_called_for, is_opened, is_free, is_torn, is_allowed, holds_demand}
use Rattle.location_terms.specs.Bound.{Duals, v_at, u_at, total, paid_at, cap_price, count_price}
use Rattle.location_terms.specs.Knapsack.{sets_of, demand_of_set, worth_of, best_set, has_small_knapsacks}
use Rattle.location_terms.specs.Leaf.{slack_in, share_in, bound_in}
use Rattle.location_terms.proofs.Totals.{total_same}
use Rattle.range_scan.proofs.Bent.{IsBent, bent_same, bent_plus, bent_share, bent_total}

-- the instance with these sites and lanes in the place of its own
abbrev pub with_costs : Instance → List Site → Lanes → Instance
with_costs I sites lanes = record I { sites = sites; lanes = lanes }

-- they differ from those of the instance in costs alone
pub record DifferInCosts (I : Instance) (sites : List Site) (lanes : Lanes) : Type 0 where
  pub count : length sites ≡ length I.sites
  pub names : site_ids (with_costs I sites lanes) ≡ site_ids I
  pub torn : (path : Path) → is_torn (with_costs I sites lanes) path ≡ is_torn I path
  pub ids : (i : ℕ) → i < length I.sites → (site_at (with_costs I sites lanes) i).id ≡ (site_at I i).id
  pub caps : (i : ℕ) → i < length I.sites → (site_at (with_costs I sites lanes) i).cap ≡ (site_at I i).cap
  pub statuses : (i : ℕ) → i < length I.sites → (site_at (with_costs I sites lanes) i).status ≡ (site_at I i).status
  pub has : (s c : ℕ) → is_some (lane (with_costs I sites lanes) s c) ≡ is_some (lane I s c)
  pub small : has_small_knapsacks (with_costs I sites lanes) ≡ has_small_knapsacks I

-- two such instances differ from each other in costs alone
pub differ_between : (I : Instance) (a b : List Site) (l m : Lanes) → DifferInCosts I a l → DifferInCosts I b m → DifferInCosts (with_costs I a l) b m
differ_between I a b l m h k = record {
  count = k.count ∙ sym h.count;
  names = k.names ∙ sym h.names;
  torn = λ path. k.torn path ∙ sym (h.torn path);
  ids = λ i w. let inside : i < length I.sites = omega (arith, w, h.count) in k.ids i inside ∙ sym (h.ids i inside);
  caps = λ i w. let inside : i < length I.sites = omega (arith, w, h.count) in k.caps i inside ∙ sym (h.caps i inside);
  statuses = λ i w. let inside : i < length I.sites = omega (arith, w, h.count) in k.statuses i inside ∙ sym (h.statuses i inside);
  has = λ s c. k.has s c ∙ sym (h.has s c);
  small = k.small ∙ sym h.small;
}

abbrev pub no_site : Site
no_site = record { id = 0; fixed = 0; cap = None; status = Free }

abbrev pub no_customer : Customer
no_customer = record { id = 0; demand = 0 }

-- what it costs to serve the customer at a place from the site at a place
abbrev pub cost_at : Instance → ℕ → ℕ → ℕ
cost_at I i j = unwrap_or (lane I (site_at I i).id (customer_at I j).id) 0

module _ (I : Instance) (sites : List Site) (lanes : Lanes) (h : DifferInCosts I sites lanes) (path : Path) (i : ℕ) (b : i < length I.sites) where
  abbrev J : Instance
  J = with_costs I sites lanes

  closed_same : is_closed path (site_at J i) ≡ is_closed path (site_at I i)
  closed_same = λ k. must_close (h.statuses i b k) || list_any (closes_site (h.ids i b k)) path

  called_same : is_called_for path (site_at J i) ≡ is_called_for path (site_at I i)
  called_same = λ k. must_open (h.statuses i b k) || list_any (opens_site (h.ids i b k)) path

  pub opened_same : is_opened path (site_at J i) ≡ is_opened path (site_at I i)
  opened_same = λ k. called_same k && not (closed_same k)

  pub free_same : is_free path (site_at J i) ≡ is_free path (site_at I i)
  free_same = λ k. not (called_same k) && not (closed_same k)

  has_same : (c : ℕ) → is_some (lane J (site_at J i).id c) ≡ is_some (lane I (site_at I i).id c)
  has_same c = ap (λ s. is_some (lane J s c)) (h.ids i b) ∙ h.has (site_at I i).id c

  pub allowed_same : (j : ℕ) → is_allowed J path (site_at J i) (customer_at J j) ≡ is_allowed I path (site_at I i) (customer_at I j)
  allowed_same j =
      let c : ℕ = (customer_at I j).id in
      λ k. not (h.torn path k) && has_same c k && not (closed_same k) && not (list_any (bars_lane (h.ids i b k) c) path) && holds_demand (h.caps i b k) (customer_at I j).demand

  module _ (d : Duals) where
    -- what a customer pays where its lane costs the same
    pub paid_same : (j : ℕ) → cost_at J i j ≡ cost_at I i j → paid_at J path d i j ≡ paid_at I path d i j
    paid_same j cost = λ k. if allowed_same j k then int_max (pos 0) (v_at d j -ℤ pos (d.q * cost k + u_at d i * (customer_at I j).demand)) else pos 0

    module _ (cost : (j : ℕ) → cost_at J i j ≡ cost_at I i j) where
      worth_same : (set : List ℕ) → worth_of J d i set ≡ worth_of I d i set
      worth_same [] = refl
      worth_same (j ∷ set) = λ k. (v_at d j -ℤ pos (d.q * cost j k)) +ℤ worth_same set k

      -- what a site collects where all its lanes cost the same
      pub best_same : best_set J path d i ≡ best_set I path d i
      unfolding best_set
      best_same = λ k.
          fold (λ best set. int_max best (worth_same set k)) (pos 0)
          (filter (λ set. holds_demand (h.caps i b k) (demand_of_set I set)) (sets_of (filter (λ j. allowed_same j k) (range_with_len 0 (length I.customers)))))

      pub all_paid_same : total (paid_at J path d i) (length I.customers) ≡ total (paid_at I path d i) (length I.customers)
      all_paid_same = total_same (paid_at J path d i) (paid_at I path d i) (length I.customers) (λ j _. paid_same j (cost j))

      -- and its slack, where it costs as much to open
      pub slack_same : (site_at J i).fixed ≡ (site_at I i).fixed → (form : LeafForm) → slack_in form J path d i ≡ slack_in form I path d i
      slack_same fixed Prices = λ k. ((pos (d.q * fixed k) +ℤ d.nu) -ℤ pos (cap_price (u_at d i) (h.caps i b k))) -ℤ all_paid_same k
      slack_same fixed Whole = λ k. (pos (d.q * fixed k) +ℤ d.nu) -ℤ best_same k

    pub share_same : (form : LeafForm) (slack : ℤ) → slack_in form J path d i ≡ slack → share_in form J path d i ≡ (if is_opened path (site_at I i) then slack else (if is_free path (site_at I i) then int_min (pos 0) slack else pos 0))
    share_same form slack is = λ k. if opened_same k then is k else (if free_same k then int_min (pos 0) (is k) else pos 0)

price_same : (I : Instance) (sites : List Site) (lanes : Lanes) (nu : ℤ) → count_price (with_costs I sites lanes) nu ≡ count_price I nu
price_same I sites lanes (pos n) = refl
price_same I sites lanes (negsuc n) = refl

-- Costs that move with a number. The bound of a box is bent in it where the slack of one site is, and the slacks of the others stay.
module _ (I : Instance) (sites : ℕ → List Site) (lanes : ℕ → Lanes) (h : (x : ℕ) → DifferInCosts I (sites x) (lanes x)) (path : Path) (d : Duals) (form : LeafForm) where
  pub bound_bent : (k : ℕ) → k < length I.sites
      → ((x i : ℕ) → i < length I.sites → i ≢ k → slack_in form (with_costs I (sites x) (lanes x)) path d i ≡ slack_in form I path d i)
      → IsBent d.q (λ x. slack_in form (with_costs I (sites x) (lanes x)) path d k)
      → IsBent d.q (λ x. bound_in form (with_costs I (sites x) (lanes x)) path d)
  bound_bent k b others bent =
      let at : ℕ → Instance = λ x. with_costs I (sites x) (lanes x) in
      let values : ℤ = total (v_at d) (length I.customers) -ℤ count_price I d.nu in
      let shares : ℕ → ℕ → ℤ = λ x. share_in form (at x) path d in
      let here : IsBent d.q (λ x. shares x k) =
      bent_same d.q (λ x. shares x k) _ (λ x. share_same I (sites x) (lanes x) (h x) path k b d form (slack_in form (at x) path d k) refl)
      (bent_share d.q (is_opened path (site_at I k)) (is_free path (site_at I k)) (λ x. slack_in form (at x) path d k) bent) in
      let all : IsBent d.q (λ x. total (shares x) (length I.sites)) =
      bent_total d.q shares (share_in form I path d) (length I.sites) k b
      (λ x i inside other. share_same I (sites x) (lanes x) (h x) path i inside d form (slack_in form I path d i) (others x i inside other)) here in
      bent_same d.q (λ x. bound_in form (at x) path d) (λ x. values +ℤ total (shares x) (length I.sites))
      (λ x. λ t. (total (v_at d) (length I.customers) -ℤ price_same I (sites x) (lanes x) d.nu t) +ℤ total (shares x) ((h x).count t))
      (bent_plus d.q values (λ x. total (shares x) (length I.sites)) all)
