-- The instances in which a site or a lane costs a number, and what is so of a plan in them.
use Rattle.std.proofs.Common.{◌≡◌, ℕ, ◌<◌, ◌≤◌, refl, ap, sym, subst, ◌∙◌, Bool, true, false, cond, length, get_or, Option, None, Some}
use Rattle.std.specs.Prelude.{Contains, IfSome, IsSome, IsTrue, ◌↔◌, ◌==◌, ◌&&◌, unwrap_or}
use Rattle.std.specs.List.{list_any}
use Rattle.std.specs.Ordering.{eq_by_cmp}
use Rattle.std.specs.FinMap.{get, same_map}
use Rattle.std.proofs.lemmas.Bool.{eqb-true, eq-eqb, false≢true, false_from_ne_true, and_from}
use Rattle.std.proofs.lemmas.List.{get_or_default}
use Rattle.std.proofs.lemmas.List.Elements.{All-map}
use Rattle.std.proofs.lemmas.List.Folds.{Any-from_list_any, list_any_at, map_fixed}
use Rattle.location_terms.specs.declared.limits.TheConstants.{MAX_AMOUNT}
use Rattle.location_terms.specs.Instance.{Instance, Site, AreIds, AreSizes, IsValid, pair_cmp, site_ids, lane, fixed_of}
use Rattle.location_terms.specs.Plan.{Plan, IsPlan}
use Rattle.location_terms.proofs.Rising.{place_of}
use Rattle.location_terms.proofs.Places.{fixed_of-site_at}
use Rattle.location_terms.proofs.Table.{pair_cmp-total, pair_cmp-exact, tied}
use Rattle.instance_store.specs.Changes.{with_fixed}
use Rattle.range_scan.specs.Prices.{with_lane_costing, lane_cost_of}
use Rattle.range_scan.proofs.Alike.{DifferInCosts, no_site, differ_between}
use Rattle.range_scan.proofs.FixedPrices.{priced_site, site_cap, fixed_costs_differ, fixed_bent}
use Rattle.range_scan.proofs.LanePrices.{lane_costs_differ, lane_bent, lane_priced}
use Rattle.range_scan.proofs.Kept.{feasible_kept, stands_kept, fits_kept}
use Rattle.range_scan.proofs.PlanCosts.{both_true, fixed_paid, lane_paid}
use Rattle.range_scan.proofs.Ranges.{IsPriced}

module _ (I : Instance) (valid : IsValid I) where
  -- The fixed cost of a site.
  module _ (s : ℕ) (known : Contains (site_ids I) s) where
    pub fixed_priced : (P : Plan) → IsPlan P → IsPriced (with_fixed I s) P (list_any (λ a. a == s) P.sites)
    fixed_priced P plan =
        let between : (x y : ℕ) → DifferInCosts (with_fixed I s x) (with_fixed I s y).sites I.lanes =
        λ x y. differ_between I (with_fixed I s x).sites (with_fixed I s y).sites I.lanes I.lanes (fixed_costs_differ I s x) (fixed_costs_differ I s y) in
        record {
          stands = λ x y. stands_kept (with_fixed I s x) (with_fixed I s y).sites I.lanes (between x y);
          feasible = λ x y. feasible_kept (with_fixed I s x) (with_fixed I s y).sites I.lanes (between x y) P;
          fits = λ x y. fits_kept (with_fixed I s x) (with_fixed I s y).sites I.lanes (between x y);
          cost = fixed_paid I valid P plan s known;
          bent = fixed_bent I s valid known;
        }

    small_site : (x : ℕ) (b : Bool) (y : Site) → x ≤ MAX_AMOUNT → y.fixed ≤ MAX_AMOUNT → (priced_site x b y).fixed ≤ MAX_AMOUNT
    small_site x true y new old = new
    small_site x false y new old = old

    pub fixed_valid : (x : ℕ) → x ≤ MAX_AMOUNT → IsValid (with_fixed I s x)
    fixed_valid x small =
        let h = fixed_costs_differ I s x in
        record {
          sites_named = subst (λ ids. AreIds ids I.next_site) (sym h.names) valid.sites_named;
          customers_named = valid.customers_named;
          lanes_known = λ a c some. let known = valid.lanes_known a c some in (subst (λ ids. Contains ids a) (sym h.names) known.0, known.1);
          lanes_small = valid.lanes_small;
          fixed_small = All-map (λ (y : Site). y.fixed ≤ MAX_AMOUNT) (λ (y : Site). priced_site x (y.id == s) y) I.sites (λ k d b. small_site x ((get_or I.sites k d).id == s) (get_or I.sites k d) small (valid.fixed_small k d b));
          caps_small = All-map (λ (y : Site). IfSome y.cap (λ cap. cap ≤ MAX_AMOUNT)) (λ (y : Site). priced_site x (y.id == s) y) I.sites
              (λ k d b. subst (λ (o : Option ℕ). IfSome o (λ cap. cap ≤ MAX_AMOUNT)) (sym (site_cap x ((get_or I.sites k d).id == s) (get_or I.sites k d))) (valid.caps_small k d b));
          demands_small = valid.demands_small;
          sizes = subst (λ m. AreSizes m (length I.customers)) (sym h.count) valid.sizes;
          count_order = valid.count_order;
          count_small = valid.count_small;
        }

    same_site : (b : Bool) (x : ℕ) (y : Site) → (b ≡ true → x ≡ y.fixed) → priced_site x b y ≡ y
    same_site true x y same = λ k. record y { fixed = same refl k }
    same_site false x y same = refl

    -- at its present cost it is the instance itself
    pub fixed_here : with_fixed I s (fixed_of I s) ≡ I
    fixed_here = λ k. record I {
      sites = map_fixed (λ (y : Site). priced_site (fixed_of I s) (y.id == s) y) I.sites
          (λ i d b. same_site ((get_or I.sites i d).id == s) (fixed_of I s) (get_or I.sites i d)
          (λ e. ap (fixed_of I) (sym (eqb-true (get_or I.sites i d).id s e)) ∙ at_place i d b)) k;
    }
      where
        at_place : (i : ℕ) (d : Site) → i < length I.sites → fixed_of I (get_or I.sites i d).id ≡ (get_or I.sites i d).fixed
        at_place i d b = subst (λ (y : Site). fixed_of I y.id ≡ y.fixed) (get_or_default I.sites i no_site d b) (fixed_of-site_at I i valid.sites_named.rising b)

    pub fixed_small : fixed_of I s ≤ MAX_AMOUNT
    fixed_small =
        let at = place_of (λ (y : Site). y.id) I.sites no_site s known in
        subst (λ n. n ≤ MAX_AMOUNT) (sym (ap (fixed_of I) (sym at.2) ∙ fixed_of-site_at I at.0 valid.sites_named.rising at.1)) (valid.fixed_small at.0 no_site at.1)

  -- The cost of a lane.
  module _ (s c : ℕ) (there : IsSome (lane I s c)) where
    pub lane_cost_priced : (P : Plan) → IsPlan P → IsPriced (with_lane_costing I s c) P (list_any (λ v. (v.1 == s) && (v.0 == c)) P.serves)
    lane_cost_priced P plan =
        let between : (x y : ℕ) → DifferInCosts (with_lane_costing I s c x) I.sites (with_lane_costing I s c y).lanes =
        λ x y. differ_between I I.sites I.sites (with_lane_costing I s c x).lanes (with_lane_costing I s c y).lanes (lane_costs_differ I s c there x) (lane_costs_differ I s c there y) in
        record {
          stands = λ x y. stands_kept (with_lane_costing I s c x) I.sites (with_lane_costing I s c y).lanes (between x y);
          feasible = λ x y. feasible_kept (with_lane_costing I s c x) I.sites (with_lane_costing I s c y).lanes (between x y) P;
          fits = λ x y. fits_kept (with_lane_costing I s c x) I.sites (with_lane_costing I s c y).lanes (between x y);
          cost = lane_paid I valid P plan s c;
          bent = lane_bent I s c there valid;
        }

    pub lane_valid : (x : ℕ) → x ≤ MAX_AMOUNT → IsValid (with_lane_costing I s c x)
    lane_valid x small = record {
      sites_named = valid.sites_named;
      customers_named = valid.customers_named;
      lanes_known = λ a d some. valid.lanes_known a d (sym ((lane_costs_differ I s c there x).has a d) ∙ some);
      lanes_small = λ a d. subst (λ (o : Option ℕ). IfSome o (λ cost. cost ≤ MAX_AMOUNT)) (sym (lane_priced I s c x a d)) (either (eq_by_cmp pair_cmp (a, d) (s, c)) (lane I a d) (valid.lanes_small a d));
      fixed_small = valid.fixed_small;
      caps_small = valid.caps_small;
      demands_small = valid.demands_small;
      sizes = valid.sizes;
      count_order = valid.count_order;
      count_small = valid.count_small;
    }
      where
        either : (b : Bool) (o : Option ℕ) → IfSome o (λ cost. cost ≤ MAX_AMOUNT) → IfSome (cond b (Some x) o) (λ cost. cost ≤ MAX_AMOUNT)
        either true o old = small
        either false o old = old

    some_is : (o : Option ℕ) → IsSome o → Some (unwrap_or o 0) ≡ o
    some_is None e = absurd (false≢true e)
    some_is (Some cost) e = refl

    pub lane_here : with_lane_costing I s c (lane_cost_of I s c) ≡ I
    lane_here = λ k. record I { lanes = same_map pair_cmp-total pair_cmp-exact (with_lane_costing I s c (lane_cost_of I s c)).lanes I.lanes (λ q. lane_priced I s c (lane_cost_of I s c) q.0 q.1 ∙ by q (eq_by_cmp pair_cmp q (s, c)) refl) k }
      where
        by : (q : ℕ × ℕ) (b : Bool) → eq_by_cmp pair_cmp q (s, c) ≡ b → cond (eq_by_cmp pair_cmp q (s, c)) (Some (lane_cost_of I s c)) (get I.lanes q) ≡ get I.lanes q
        by q true e =
            ap (λ b. cond b (Some (lane_cost_of I s c)) (get I.lanes q)) e
            ∙ some_is (lane I s c) there
            ∙ ap (get I.lanes) (sym (pair_cmp-exact q (s, c) (tied _ e)))
        by q false e = ap (λ b. cond b (Some (lane_cost_of I s c)) (get I.lanes q)) e

    pub lane_small : lane_cost_of I s c ≤ MAX_AMOUNT
    lane_small = of_some (lane I s c) there (valid.lanes_small s c)
      where
        of_some : (o : Option ℕ) → IsSome o → IfSome o (λ cost. cost ≤ MAX_AMOUNT) → unwrap_or o 0 ≤ MAX_AMOUNT
        of_some None e h = absurd (false≢true e)
        of_some (Some cost) e h = h

-- Whether a plan pays a cost.

-- it opens the site
pub opens_where : (P : Plan) (s : ℕ) → Contains P.sites s → list_any (λ a. a == s) P.sites ≡ true
opens_where P s among = list_any_at (λ a. a == s) P.sites among.0 s among.1 (eq-eqb _ s among.2)

pub opens_nowhere : (P : Plan) (s : ℕ) → (Contains P.sites s → ⊥) → list_any (λ a. a == s) P.sites ≡ false
opens_nowhere P s lacks =
    false_from_ne_true _ (λ t. let any = Any-from_list_any (λ a. a == s) P.sites t in
    lacks (any.0, any.2, get_or_default P.sites any.0 s any.1 any.2 ∙ any.3 ∙ eqb-true any.1 s any.4))

pub opens_as : (P : Plan) (s : ℕ) (b : Bool) → (IsTrue b ↔ Contains P.sites s) → list_any (λ a. a == s) P.sites ≡ b
opens_as P s true h = opens_where P s (h.0 refl)
opens_as P s false h = opens_nowhere P s (λ among. false≢true (h.1 among))

-- it uses the lane
pub uses_where : (P : Plan) (s c : ℕ) → Contains P.serves (c, s) → list_any (λ v. (v.1 == s) && (v.0 == c)) P.serves ≡ true
uses_where P s c among =
    let v : ℕ × ℕ = get_or P.serves among.0 (c, s) in
    list_any_at (λ v. (v.1 == s) && (v.0 == c)) P.serves among.0 (c, s) among.1
    (and_from (v.1 == s) (v.0 == c) (eq-eqb v.1 s (ap (λ (q : ℕ × ℕ). q.1) among.2)) (eq-eqb v.0 c (ap (λ (q : ℕ × ℕ). q.0) among.2)))

pub uses_nowhere : (P : Plan) (s c : ℕ) → (Contains P.serves (c, s) → ⊥) → list_any (λ v. (v.1 == s) && (v.0 == c)) P.serves ≡ false
uses_nowhere P s c lacks =
    false_from_ne_true _ (λ t.
    let any = Any-from_list_any (λ v. (v.1 == s) && (v.0 == c)) P.serves t in
    let is = both_true (any.1.1 == s) (any.1.0 == c) any.4 in
    let here : any.1 ≡ (c, s) = λ k. (eqb-true any.1.0 c is.1 k, eqb-true any.1.1 s is.0 k) in
    lacks (any.0, any.2, get_or_default P.serves any.0 (c, s) any.1 any.2 ∙ any.3 ∙ here))
