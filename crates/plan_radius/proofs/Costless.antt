-- An instance where nothing costs anything has the feasible plans of the instance itself, and duals of scale 0 have one bound in both.
use Rattle.std.proofs.Common.{◌≡◌, ℕ, ◌+◌, ◌*◌, ◌<◌, ◌≤◌, inl, inr, Bool, not, List, [], ◌∷◌, map, length, All, Contains, Option, None, Some, IfSome, unwrap_or, ℤ, pos, negsuc, ◌+ℤ◌, ◌-ℤ◌, ◌≤ℤ◌, refl, sym, ap, subst, ◌∙◌, arith, if◌then◌else◌}
use Rattle.std.specs.Prelude.{◌&&◌, ◌||◌, ◌==◌, filter, fold, true}
use Rattle.std.specs.Int.{int_max, int_min}
use Rattle.std.specs.List.{list_any, list_all, range_with_len}
use Rattle.std.proofs.lemmas.List.{length-map, get_or-map}
use Rattle.std.proofs.lemmas.List.Elements.{All-map, All-weaker, filter_agree}
use Rattle.std.proofs.lemmas.List.Folds.{list_all-map}
use Rattle.std.proofs.lemmas.Simd.{map-map}
use Rattle.location_terms.specs.declared.form.LeafForm.{LeafForm}
use Rattle.location_terms.specs.declared.form.LeafForm.TheVariants.{Prices, Whole}
use Rattle.location_terms.specs.declared.status.SiteStatus.TheVariants.{Free}
use Rattle.location_terms.specs.Instance.{Instance, Site, site_ids, site_at, customer_at, lane}
use Rattle.location_terms.specs.Plan.{Plan, IsFeasible, KeepsStatus, load_of}
use Rattle.location_terms.specs.Box.{Path, is_allowed, is_torn, is_closed, is_called_for, is_opened, is_free, bars_lane, holds_demand}
use Rattle.location_terms.specs.Bound.{Duals, v_at, u_at, total, level_at, paid_at, cap_price, slack_of, count_price}
use Rattle.location_terms.specs.Knapsack.{sets_of, servable, demand_of_set, worth_of, sets_that_fit, best_set, whole_demand, holds_few_units, has_small_knapsacks}
use Rattle.location_terms.specs.Leaf.{slack_in, share_in, bound_in, KnapsacksSuit, LeafFits, LeafCloses}
use Rattle.location_terms.specs.Tree.{Tree, AllClose, leaves_of}
use Rattle.location_terms.proofs.Totals.{total_same}
use Rattle.plan_radius.specs.Cheaper.{costless, without_costs}
use Rattle.plan_radius.proofs.FreeLanes.{is_some-free}

pub any-costless : (p : Site → Bool) (xs : List Site) → ((x : Site) → p (costless x) ≡ p x) → list_any p (map costless xs) ≡ list_any p xs
any-costless p [] same = refl
any-costless p (x ∷ xs) same = λ k. same x k || any-costless p xs same k

module _ (I : Instance) where
  abbrev J : Instance
  J = without_costs I

  pub site_ids-costless : site_ids J ≡ site_ids I
  site_ids-costless = map-map (λ s. s.id) costless I.sites

  pub length-costless : length J.sites ≡ length I.sites
  length-costless = length-map I.sites costless

  abbrev no_site : Site
  no_site = record { id = 0; fixed = 0; cap = None; status = Free }

  pub site_at-costless : (i : ℕ) → i < length I.sites → site_at J i ≡ costless (site_at I i)
  site_at-costless i within = get_or-map costless I.sites i no_site no_site within

  -- what holds of the sites but for their costs

  All-costless : (Q : Site → Type 0) → All Q J.sites → All (λ s. Q (costless s)) I.sites
  All-costless Q all k d below = subst Q (get_or-map costless I.sites k d (costless d) below) (all k (costless d) (omega (arith, below, length-costless)))

  module _ (P : Plan) where
    pub costless_feasible : IsFeasible I P → IsFeasible J P
    costless_feasible feasible = record {
      plan = feasible.plan;
      sites_known = subst (λ ids. All (Contains ids) P.sites) (sym site_ids-costless) feasible.sites_known;
      each_once = feasible.each_once;
      by_open = feasible.by_open;
      by_lane = λ k d b. is_some-free I _ _ ∙ feasible.by_lane k d b;
      within_cap = All-map (λ s. Contains P.sites s.id → IfSome s.cap (λ cap. load_of I P s.id ≤ cap)) costless I.sites feasible.within_cap;
      at_least = feasible.at_least;
      at_most = feasible.at_most;
      statuses = All-map (λ s. KeepsStatus P s.id s.status) costless I.sites feasible.statuses;
    }

    pub feasible_costless : IsFeasible J P → IsFeasible I P
    feasible_costless feasible = record {
      plan = feasible.plan;
      sites_known = subst (λ ids. All (Contains ids) P.sites) site_ids-costless feasible.sites_known;
      each_once = feasible.each_once;
      by_open = feasible.by_open;
      by_lane = λ k d b. sym (is_some-free I _ _) ∙ feasible.by_lane k d b;
      within_cap = All-costless (λ s. Contains P.sites s.id → IfSome s.cap (λ cap. load_of I P s.id ≤ cap)) feasible.within_cap;
      at_least = feasible.at_least;
      at_most = feasible.at_most;
      statuses = All-costless (λ s. KeepsStatus P s.id s.status) feasible.statuses;
    }

  -- what a box allows

  module _ (path : Path) where
    torn-costless : is_torn J path ≡ is_torn I path
    torn-costless = any-costless (λ s. is_called_for path s && is_closed path s) I.sites (λ _. refl)

    pub allowed-costless : (i j : ℕ) → i < length I.sites → is_allowed J path (site_at J i) (customer_at J j) ≡ is_allowed I path (site_at I i) (customer_at I j)
    allowed-costless i j within =
        ap (λ (s : Site). is_allowed J path s (customer_at I j)) (site_at-costless i within)
        ∙ (λ k. not (torn-costless k) && is_some-free I (site_at I i).id (customer_at I j).id k && not (is_closed path (site_at I i)) && not (list_any (bars_lane (site_at I i).id (customer_at I j).id) path) && holds_demand (site_at I i).cap (customer_at I j).demand)

    -- sums at scale 0

    module _ (d : Duals) (unscaled : d.q ≡ 0) where
      nothing : (x y : ℕ) → d.q * x ≡ d.q * y
      nothing x y = let none : 0 * x ≡ 0 * y = omega arith in ap (λ n. n * x) unscaled ∙ none ∙ sym (ap (λ n. n * y) unscaled)

      level-costless : (i j : ℕ) → i < length I.sites → level_at J d i j ≡ level_at I d i j
      level-costless i j within =
          ap (λ n. pos (n + u_at d i * (customer_at I j).demand))
          (nothing (unwrap_or (lane J (site_at J i).id (customer_at J j).id) 0) (unwrap_or (lane I (site_at I i).id (customer_at I j).id) 0))

      paid-costless : (i j : ℕ) → i < length I.sites → paid_at J path d i j ≡ paid_at I path d i j
      paid-costless i j within = λ k. if allowed-costless i j within k then int_max (pos 0) (v_at d j -ℤ level-costless i j within k) else pos 0

      -- what a site costs to open, with the price of the count
      opening-costless : (i : ℕ) → pos (d.q * (site_at J i).fixed) +ℤ d.nu ≡ pos (d.q * (site_at I i).fixed) +ℤ d.nu
      opening-costless i = ap (λ n. pos n +ℤ d.nu) (nothing (site_at J i).fixed (site_at I i).fixed)

      slack_of-costless : (i : ℕ) → i < length I.sites → slack_of J path d i ≡ slack_of I path d i
      slack_of-costless i within = λ k. (opening-costless i k -ℤ pos (cap_price (u_at d i) (site_at-costless i within k).cap)) -ℤ total_same (paid_at J path d i) (paid_at I path d i) (length I.customers) (λ j _. paid-costless i j within) k

      worth-costless : (i : ℕ) (set : List ℕ) → worth_of J d i set ≡ worth_of I d i set
      worth-costless i [] = refl
      worth-costless i (j ∷ set) = λ k. (v_at d j -ℤ pos (nothing (unwrap_or (lane J (site_at J i).id (customer_at J j).id) 0) (unwrap_or (lane I (site_at I i).id (customer_at I j).id) 0) k)) +ℤ worth-costless i set k

      servable-costless : (i : ℕ) → i < length I.sites → servable J path i ≡ servable I path i
      servable-costless i within = filter_agree (λ j. is_allowed J path (site_at J i) (customer_at J j)) (λ j. is_allowed I path (site_at I i) (customer_at I j)) (λ j. allowed-costless i j within) (range_with_len 0 (length I.customers))

      fitting-costless : (i : ℕ) → i < length I.sites → sets_that_fit J path i ≡ sets_that_fit I path i
      fitting-costless i within = λ k. filter (λ set. holds_demand (site_at-costless i within k).cap (demand_of_set I set)) (sets_of (servable-costless i within k))

      best-costless : (i : ℕ) → i < length I.sites → best_set J path d i ≡ best_set I path d i
      unfolding best_set
      best-costless i within = λ k. fold (λ best set. int_max best (worth-costless i set k)) (pos 0) (fitting-costless i within k)

      slack-costless : (form : LeafForm) (i : ℕ) → i < length I.sites → slack_in form J path d i ≡ slack_in form I path d i
      slack-costless Prices i within = slack_of-costless i within
      slack-costless Whole i within = λ k. opening-costless i k -ℤ best-costless i within k

      share-costless : (form : LeafForm) (i : ℕ) → i < length I.sites → share_in form J path d i ≡ share_in form I path d i
      share-costless form i within = λ k. if is_opened path (site_at-costless i within k) then slack-costless form i within k else (if is_free path (site_at-costless i within k) then int_min (pos 0) (slack-costless form i within k) else pos 0)

      count-costless : (nu : ℤ) → count_price J nu ≡ count_price I nu
      count-costless (pos n) = refl
      count-costless (negsuc n) = refl

      pub bound-costless : (form : LeafForm) → bound_in form J path d ≡ bound_in form I path d
      bound-costless form =
          ap (λ m. (total (v_at d) (length I.customers) -ℤ count_price J d.nu) +ℤ total (share_in form J path d) m) length-costless
          ∙ (λ k. (total (v_at d) (length I.customers) -ℤ count-costless d.nu k) +ℤ total_same (share_in form J path d) (share_in form I path d) (length I.sites) (λ i within. share-costless form i within) k)

  -- leaves

  few-costless : (cap : Option ℕ) → holds_few_units J cap ≡ holds_few_units I cap
  few-costless None = refl
  few-costless (Some most) = refl

  small-costless : has_small_knapsacks J ≡ has_small_knapsacks I
  unfolding has_small_knapsacks
  small-costless =
      ap (λ (all : Bool). if whole_demand I == 0 then true else all)
      (list_all-map (λ s. holds_few_units J s.cap) costless I.sites ∙ (λ k. list_all (λ s. few-costless s.cap k) I.sites))

  knapsacks-costless : (form : LeafForm) → KnapsacksSuit form J → KnapsacksSuit form I
  knapsacks-costless Prices suit = tt
  knapsacks-costless Whole suit = sym small-costless ∙ suit

  fits-costless : (d : Duals) → LeafFits J d → LeafFits I d
  fits-costless d fit = record {
    numbers = record {
      in_limits = fit.numbers.in_limits;
      of_instance = record {
        customers = fit.numbers.of_instance.customers;
        sites = fit.numbers.of_instance.sites ∙ length-costless;
        unpriced = λ i within none. fit.numbers.of_instance.unpriced i (omega (arith, within, length-costless)) (ap (λ (s : Site). s.cap) (site_at-costless i within) ∙ none);
      };
    };
    prices = fit.prices;
    knapsacks = knapsacks-costless d.form fit.knapsacks;
  }

  closes-costless : (path : Path) (d : Duals) → LeafCloses J path d None → LeafCloses I path d None
  closes-costless path d closes = record {
    fit = fits-costless d closes.fit;
    closed = elim closes.closed [
      | inl ray ↦ inl (ray.0, subst (λ bound. pos 1 ≤ℤ bound) (bound-costless path d ray.0 d.form) ray.1)
      | inr scaled ↦ absurd scaled.1
    ];
  }

  pub all_close-costless : (t : Tree) → AllClose J t None → AllClose I t None
  all_close-costless t all = All-weaker (λ l. LeafCloses J l.0 l.1 None) (λ l. LeafCloses I l.0 l.1 None) (λ l. closes-costless l.0 l.1) (leaves_of t) all
