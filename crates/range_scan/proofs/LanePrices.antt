-- The bound of a leaf in the cost of one lane.
use Rattle.std.proofs.Common.{◌≡◌, ◌≢◌, ℕ, ◌*◌, ◌+◌, ◌<◌, refl, ap, sym, ◌∙◌, arith, Bool, true, false, cond, length, Option, Some, ℤ, pos, ◌+ℤ◌, ◌-ℤ◌}
use Rattle.std.specs.Prelude.{IsSome, is_some, unwrap_or, if◌then◌else◌}
use Rattle.std.specs.Int.{int_max}
use Rattle.std.specs.Ordering.{eq_by_cmp}
use Rattle.std.specs.FinMap.{get-insert}
use Rattle.std.proofs.lemmas.Int.{ints}
use Rattle.location_terms.specs.declared.form.LeafForm.{LeafForm}
use Rattle.location_terms.specs.declared.form.LeafForm.TheVariants.{Prices, Whole}
use Rattle.location_terms.specs.Instance.{Instance, IsValid, Site, Customer, pair_cmp, site_at, customer_at, lane}
use Rattle.location_terms.specs.Box.{Path, is_allowed}
use Rattle.location_terms.specs.Bound.{Duals, v_at, u_at, paid_at, cap_price}
use Rattle.location_terms.specs.Knapsack.{best_set, has_small_knapsacks}
use Rattle.location_terms.specs.Leaf.{slack_in, leaf_bound}
use Rattle.location_terms.proofs.Rising.{place_of, one_place}
use Rattle.location_terms.proofs.Table.{pair_cmp-total, pair_cmp-exact, tied, pair_tied, pair_apart}
use Rattle.range_scan.specs.Prices.{with_lane_costing}
use Rattle.range_scan.proofs.Bent.{IsBent, bent_same, bent_plus, bent_paid, bent_total_off}
use Rattle.range_scan.proofs.Alike.{DifferInCosts, no_site, no_customer, cost_at, allowed_same, paid_same, slack_same, bound_bent}
use Rattle.range_scan.proofs.WholeLanes.{best_bent}

-- what is found once a lane costs so much
pub lane_priced : (I : Instance) (s c x a b : ℕ) → lane (with_lane_costing I s c x) a b ≡ cond (eq_by_cmp pair_cmp (a, b) (s, c)) (Some x) (lane I a b)
lane_priced I s c x a b = get-insert pair_cmp-total I.lanes (s, c) x (a, b)

pub own_lane : (I : Instance) (s c x : ℕ) → lane (with_lane_costing I s c x) s c ≡ Some x
own_lane I s c x = lane_priced I s c x s c ∙ ap (λ t. cond t (Some x) (lane I s c)) (pair_tied (s, c))

pub other_lane : (I : Instance) (s c x a b : ℕ) → (a ≡ s → b ≡ c → ⊥) → lane (with_lane_costing I s c x) a b ≡ lane I a b
other_lane I s c x a b other = lane_priced I s c x a b ∙ ap (λ t. cond t (Some x) (lane I a b)) (pair_apart (a, b) (s, c) (λ e. other (ap (λ (p : ℕ × ℕ). p.0) e) (ap (λ (p : ℕ × ℕ). p.1) e)))

-- a lane that is there stays there, and none comes
pub lane_stays : (I : Instance) (s c x a b : ℕ) → IsSome (lane I s c) → is_some (lane (with_lane_costing I s c x) a b) ≡ is_some (lane I a b)
lane_stays I s c x a b there = ap is_some (lane_priced I s c x a b) ∙ by (eq_by_cmp pair_cmp (a, b) (s, c)) refl
  where
    by : (t : Bool) → eq_by_cmp pair_cmp (a, b) (s, c) ≡ t → is_some (cond (eq_by_cmp pair_cmp (a, b) (s, c)) (Some x) (lane I a b)) ≡ is_some (lane I a b)
    by true e =
        ap (λ t. is_some (cond t (Some x) (lane I a b))) e
        ∙ sym there
        ∙ ap (λ (p : ℕ × ℕ). is_some (lane I p.0 p.1)) (sym (pair_cmp-exact (a, b) (s, c) (tied _ e)))
    by false e = ap (λ t. is_some (cond t (Some x) (lane I a b))) e

small_same : (I : Instance) (s c x : ℕ) → has_small_knapsacks (with_lane_costing I s c x) ≡ has_small_knapsacks I
unfolding has_small_knapsacks
small_same I s c x = refl

module _ (I : Instance) (s c : ℕ) (there : IsSome (lane I s c)) where
  pub lane_costs_differ : (x : ℕ) → DifferInCosts I I.sites (with_lane_costing I s c x).lanes
  lane_costs_differ x = record {
    count = refl;
    names = refl;
    torn = λ path. refl;
    ids = λ i b. refl;
    caps = λ i b. refl;
    statuses = λ i b. refl;
    has = λ a b. lane_stays I s c x a b there;
    small = small_same I s c x;
  }

  module _ (valid : IsValid I) (path : Path) (d : Duals) where
    -- at the site's own place
    module _ (i : ℕ) (b : i < length I.sites) (is : (site_at I i).id ≡ s) where
      own : (x j : ℕ) → (customer_at I j).id ≡ c → cost_at (with_lane_costing I s c x) i j ≡ x
      own x j same = (λ k. unwrap_or (lane (with_lane_costing I s c x) (is k) (same k)) 0) ∙ ap (λ (o : Option ℕ). unwrap_or o 0) (own_lane I s c x)

      others : (x j : ℕ) → (customer_at I j).id ≢ c → cost_at (with_lane_costing I s c x) i j ≡ cost_at I i j
      others x j other = ap (λ (o : Option ℕ). unwrap_or o 0) (other_lane I s c x (site_at I i).id (customer_at I j).id (λ _ e. other e))

      slack_bent : (form : LeafForm) → IsBent d.q (λ x. slack_in form (with_lane_costing I s c x) path d i)
      slack_bent Prices =
          let at = place_of (λ (y : Customer). y.id) I.customers no_customer c (valid.lanes_known s c there).1 in
          let j : ℕ = at.0 in
          let here : IsBent d.q (λ x. pos 0 -ℤ paid_at (with_lane_costing I s c x) path d i j) =
          bent_same d.q (λ x. pos 0 -ℤ paid_at (with_lane_costing I s c x) path d i j) _
          (λ x. λ k. pos 0 -ℤ (if allowed_same I I.sites (with_lane_costing I s c x).lanes (lane_costs_differ x) path i b j k then int_max (pos 0) (v_at d j -ℤ pos (d.q * own x j at.2 k + u_at d i * (customer_at I j).demand)) else pos 0))
          (bent_paid d.q (is_allowed I path (site_at I i) (customer_at I j)) (v_at d j) (u_at d i * (customer_at I j).demand)) in
          bent_total_off d.q (λ x. paid_at (with_lane_costing I s c x) path d i) (paid_at I path d i) (length I.customers) j at.1
          (λ x k inside apart. paid_same I I.sites (with_lane_costing I s c x).lanes (lane_costs_differ x) path i b d k
          (others x k (λ e. apart (one_place (λ (y : Customer). y.id) I.customers no_customer valid.customers_named.rising k j inside at.1 (e ∙ sym at.2)))))
          here ((pos (d.q * (site_at I i).fixed) +ℤ d.nu) -ℤ pos (cap_price (u_at d i) (site_at I i).cap))
      slack_bent Whole =
          let opening : ℤ = pos (d.q * (site_at I i).fixed) +ℤ d.nu in
          bent_same d.q (λ x. slack_in Whole (with_lane_costing I s c x) path d i) (λ x. opening +ℤ (pos 0 -ℤ best_set (with_lane_costing I s c x) path d i)) (λ x. omega (arith, ints))
          (bent_plus d.q opening (λ x. pos 0 -ℤ best_set (with_lane_costing I s c x) path d i)
          (best_bent I c (λ x. (with_lane_costing I s c x).lanes) d i own others valid path b lane_costs_differ))

    -- at the others
    slack_stays : (form : LeafForm) (x i : ℕ) → i < length I.sites → (site_at I i).id ≢ s → slack_in form (with_lane_costing I s c x) path d i ≡ slack_in form I path d i
    slack_stays form x i b other =
        slack_same I I.sites (with_lane_costing I s c x).lanes (lane_costs_differ x) path i b d
        (λ j. ap (λ (o : Option ℕ). unwrap_or o 0) (other_lane I s c x (site_at I i).id (customer_at I j).id (λ e _. other e))) refl form

    pub lane_bent : IsBent d.q (λ x. leaf_bound (with_lane_costing I s c x) path d)
    lane_bent =
        let at = place_of (λ (y : Site). y.id) I.sites no_site s (valid.lanes_known s c there).0 in
        bound_bent I (λ _. I.sites) (λ x. (with_lane_costing I s c x).lanes) lane_costs_differ path d d.form at.0 at.1
        (λ x i inside apart. slack_stays d.form x i inside (λ e. apart (one_place (λ (y : Site). y.id) I.sites no_site valid.sites_named.rising i at.0 inside at.1 (e ∙ sym at.2))))
        (slack_bent at.0 at.1 at.2 d.form)
