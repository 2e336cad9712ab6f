-- Lanes that are changed one after another: once each is changed, the instance is the one that is defined.
use Rattle.std.proofs.Common.{◌≡◌, ℕ, ◌+◌, ◌<◌, inl, inr, ◌⊎◌, Bool, true, false, cond, length, Option, None, Some, is_some, refl, sym, ap, subst, ◌∙◌, arith}
use Rattle.std.specs.Prelude.{nat_lt}
use Rattle.std.proofs.lemmas.Bool.{cases_eq}
use Rattle.std.proofs.lemmas.List.{get_or_default}
use Rattle.std.specs.Ordering.{eq_by_cmp}
use Rattle.std.specs.FinMap.{get, get-insert, get-remove, same_map}
use Rattle.location_terms.specs.Instance.{Instance, Lanes, IsValid, pair_cmp, lane, site_ids, customer_ids, site_at, customer_at}
use Rattle.location_terms.proofs.Places.{slice_index-site_ids, slice_index-customer_ids, length-site_ids, length-customer_ids}
use Rattle.location_terms.proofs.Table.{pair_cmp-total, pair_cmp-exact, tied, pair_tied}
use Rattle.instance_store.specs.Changes.{lanes_with, with_lane_cost}
use Rattle.plan_radius.specs.declared.lane_change.LaneChange.{LaneChange}
use Rattle.plan_radius.specs.declared.lane_change.LaneChange.TheVariants.{Below, Free}
use Rattle.plan_radius.specs.Cheaper.{below_cost, free_lanes, without_costs}
use Rattle.plan_radius.specs.Clearing.{without_fixed}
use Rattle.plan_radius.specs.Changing.{lane_changed, HasChanged, IsPartlyChanged}
use Rattle.plan_radius.proofs.FreeLanes.{lane-below, lane-free}

-- a lane that is changed twice is as if it were changed once
again : (change : LaneChange) (o : Option ℕ) → lane_changed change (lane_changed change o) ≡ lane_changed change o
again (Below r) None = refl
again (Below r) (Some cost) = by (nat_lt cost r) refl
  where
    by : (b : Bool) → nat_lt cost r ≡ b → lane_changed (Below r) (cond b (Some cost) None) ≡ cond b (Some cost) None
    by true less = ap (λ b. cond b (Some cost) None) less
    by false _ = refl
again Free None = refl
again Free (Some cost) = refl

none_stays : (change : LaneChange) → lane_changed change None ≡ None
none_stays (Below r) = refl
none_stays Free = refl

-- what is found once a lane is set
get-lanes_with : (m : Lanes) (s c : ℕ) (o : Option ℕ) (q : ℕ × ℕ) → get (lanes_with m s c o) q ≡ cond (eq_by_cmp pair_cmp q (s, c)) o (get m q)
get-lanes_with m s c (Some cost) q = get-insert pair_cmp-total m (s, c) cost q
get-lanes_with m s c None q = get-remove pair_cmp-total m (s, c) q

-- nothing is changed yet
pub unchanged : (change : LaneChange) (I : Instance) → IsPartlyChanged change I I
unchanged change I = record { rest = refl; lanes = λ s c. inl refl }

-- one lane is changed
module _ (change : LaneChange) (I : Instance) (s c : ℕ) where
  abbrev J : Instance
  J = with_lane_cost I s c (lane_changed change (lane I s c))

  found : (t d : ℕ) (b : Bool) → eq_by_cmp pair_cmp (t, d) (s, c) ≡ b → lane J t d ≡ cond b (lane_changed change (lane I s c)) (lane I t d)
  found t d b is = get-lanes_with I.lanes s c (lane_changed change (lane I s c)) (t, d) ∙ ap (λ b. cond b (lane_changed change (lane I s c)) (lane I t d)) is

  pub one_part : IsPartlyChanged change I J
  one_part = record { rest = refl; lanes = λ t d. by t d (eq_by_cmp pair_cmp (t, d) (s, c)) refl }
    where
      by : (t d : ℕ) (b : Bool) → eq_by_cmp pair_cmp (t, d) (s, c) ≡ b → (lane J t d ≡ lane I t d) ⊎ HasChanged change I J t d
      by t d true is = inr (found t d true is ∙ ap (λ (p : ℕ × ℕ). lane_changed change (lane I p.0 p.1)) (sym (pair_cmp-exact (t, d) (s, c) (tied _ is))))
      by t d false is = inl (found t d false is)

  pub one_here : HasChanged change I J s c
  one_here = found s c true (pair_tied (s, c))

-- some lanes are changed, and then some more
module _ (change : LaneChange) (I J K : Instance) (first : IsPartlyChanged change I J) (more : IsPartlyChanged change J K) where
  pub still_changed : (s c : ℕ) → HasChanged change I J s c → HasChanged change I K s c
  still_changed s c is =
      elim (more.lanes s c) [
        | inl same ↦ same ∙ is
        | inr twice ↦ twice ∙ ap (lane_changed change) is ∙ again change (lane I s c)
      ]

  pub now_changed : (s c : ℕ) → HasChanged change J K s c → HasChanged change I K s c
  now_changed s c is =
      is ∙ elim (first.lanes s c) [
        | inl same ↦ ap (lane_changed change) same
        | inr before ↦ ap (lane_changed change) before ∙ again change (lane I s c)
      ]

  pub both_parts : IsPartlyChanged change I K
  both_parts = record {
    rest = more.rest ∙ ap (λ (A : Instance). record A { lanes = K.lanes }) first.rest;
    lanes = λ s c.
        elim (more.lanes s c) [
          | inl same ↦ elim (first.lanes s c) [ inl before ↦ inl (same ∙ before) | inr before ↦ inr (same ∙ before) ]
          | inr is ↦ inr (now_changed s c is)
        ];
  }

-- every lane is changed
module _ (change : LaneChange) (I K : Instance) (valid : IsValid I) (part : IsPartlyChanged change I K) (all : (i j : ℕ) → i < length I.sites → j < length I.customers → HasChanged change I K (site_at I i).id (customer_at I j).id) where
  everywhere : (s c : ℕ) → HasChanged change I K s c
  everywhere s c = by (lane I s c) refl
    where
      by : (o : Option ℕ) → lane I s c ≡ o → HasChanged change I K s c
      by None none = elim (part.lanes s c) [ inl same ↦ same ∙ none ∙ sym (ap (lane_changed change) none ∙ none_stays change) | inr is ↦ is ]
      by (Some cost) there =
          let known = valid.lanes_known s c (ap is_some there) in
          let within : known.0.0 < length I.sites = omega (arith, known.0.1, length-site_ids I) in
          let inside : known.1.0 < length I.customers = omega (arith, known.1.1, length-customer_ids I) in
          let site : (site_at I known.0.0).id ≡ s = sym (slice_index-site_ids I known.0.0 within) ∙ get_or_default (site_ids I) known.0.0 0 s known.0.1 ∙ known.0.2 in
          let customer : (customer_at I known.1.0).id ≡ c = sym (slice_index-customer_ids I known.1.0 inside) ∙ get_or_default (customer_ids I) known.1.0 0 c known.1.1 ∙ known.1.2 in
          subst (λ (p : ℕ × ℕ). HasChanged change I K p.0 p.1) (λ k. (site k, customer k)) (all known.0.0 known.1.0 within inside)

  pub changed_lanes : (lanes : Lanes) → ((s c : ℕ) → get lanes (s, c) ≡ lane_changed change (lane I s c)) → K ≡ record I { lanes = lanes }
  changed_lanes lanes are = part.rest ∙ ap (λ (l : Lanes). record I { lanes = l }) (same_map pair_cmp-total pair_cmp-exact K.lanes lanes (λ q. everywhere q.0 q.1 ∙ sym (are q.0 q.1)))

pub all_below : (r : ℕ) (I K : Instance) → IsValid I → IsPartlyChanged (Below r) I K → ((i j : ℕ) → i < length I.sites → j < length I.customers → HasChanged (Below r) I K (site_at I i).id (customer_at I j).id) → K ≡ below_cost I r
all_below r I K valid part all = changed_lanes (Below r) I K valid part all (below_cost I r).lanes (λ s c. lane-below I r s c)

pub all_free : (A I K : Instance) → I ≡ without_fixed A → IsValid I → IsPartlyChanged Free I K → ((i j : ℕ) → i < length I.sites → j < length I.customers → HasChanged Free I K (site_at I i).id (customer_at I j).id) → K ≡ without_costs A
all_free A I K is valid part all =
    changed_lanes Free I K valid part all (free_lanes I.lanes) (λ s c. lane-free I s c)
    ∙ ap (λ (B : Instance). record B { lanes = free_lanes B.lanes }) is

-- a loop's steps: one lane more of a site's, one site more

module _ (change : LaneChange) (old now : Instance) (part : IsPartlyChanged change old now) where
  same_site : (i : ℕ) → site_at now i ≡ site_at old i
  same_site i = ap (λ (A : Instance). site_at A i) part.rest

  same_customer : (j : ℕ) → customer_at now j ≡ customer_at old j
  same_customer j = ap (λ (A : Instance). customer_at A j) part.rest

  pub same_sites : length now.sites ≡ length old.sites
  same_sites = ap (λ (A : Instance). length A.sites) part.rest

  pub same_customers : length now.customers ≡ length old.customers
  same_customers = ap (λ (A : Instance). length A.customers) part.rest

  -- the lane from the site at i to the customer at j is set to what becomes of it
  module _ (i j : ℕ) (o : Option ℕ) (becomes : o ≡ lane_changed change (lane now (site_at now i).id (customer_at now j).id)) (new : Instance) (set : new ≡ with_lane_cost now (site_at now i).id (customer_at now j).id o) where
    set_is : new ≡ with_lane_cost now (site_at now i).id (customer_at now j).id (lane_changed change (lane now (site_at now i).id (customer_at now j).id))
    set_is = set ∙ ap (with_lane_cost now (site_at now i).id (customer_at now j).id) becomes

    one : IsPartlyChanged change now new
    one = subst (IsPartlyChanged change now) (sym set_is) (one_part change now (site_at now i).id (customer_at now j).id)

    here : HasChanged change now new (site_at old i).id (customer_at old j).id
    here =
        subst (λ (p : ℕ × ℕ). HasChanged change now new p.0 p.1) (λ k. ((same_site i k).id, (same_customer j k).id))
        (subst (λ (A : Instance). HasChanged change now A (site_at now i).id (customer_at now j).id) (sym set_is) (one_here change now (site_at now i).id (customer_at now j).id))

    pub set_part : IsPartlyChanged change old new
    set_part = both_parts change old now new part one

    pub set_first : ((k : ℕ) → k < j → HasChanged change old now (site_at old i).id (customer_at old k).id) → (k : ℕ) → k < j + 1 → HasChanged change old new (site_at old i).id (customer_at old k).id
    set_first first k below =
        elim (cases_eq k j) [
          | inl same ↦ subst (λ n. HasChanged change old new (site_at old i).id (customer_at old n).id) (sym same) (now_changed change old now new part one (site_at old i).id (customer_at old j).id here)
          | inr other ↦ still_changed change old now new part one (site_at old i).id (customer_at old k).id (first k (omega (arith, below, other)))
        ]

  -- the lanes from the site at i are changed
  module _ (i : ℕ) (new : Instance) (row : IsPartlyChanged change now new) (all : (j : ℕ) → j < length now.customers → HasChanged change now new (site_at now i).id (customer_at now j).id) where
    pub row_part : IsPartlyChanged change old new
    row_part = both_parts change old now new part row

    pub row_first : ((k j : ℕ) → k < i → j < length old.customers → HasChanged change old now (site_at old k).id (customer_at old j).id) → (k j : ℕ) → k < i + 1 → j < length old.customers → HasChanged change old new (site_at old k).id (customer_at old j).id
    row_first first k j below inside =
        elim (cases_eq k i) [
          | inl same ↦ subst (λ n. HasChanged change old new (site_at old n).id (customer_at old j).id) (sym same) (now_changed change old now new part row (site_at old i).id (customer_at old j).id here)
          | inr other ↦ still_changed change old now new part row (site_at old k).id (customer_at old j).id (first k j (omega (arith, below, other)) inside)
        ]
      where
        here : HasChanged change now new (site_at old i).id (customer_at old j).id
        here = subst (λ (p : ℕ × ℕ). HasChanged change now new p.0 p.1) (λ k. ((same_site i k).id, (same_customer j k).id)) (all j (omega (arith, inside, same_customers)))
