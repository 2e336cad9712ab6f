-- What stays so where costs alone differ: plans stay feasible, trees stand on the same ids and duals fit.
use Rattle.std.proofs.Common.{◌≡◌, ℕ, ◌<◌, ◌≤◌, sym, subst, ◌∙◌, arith, List, length, get_or, Option}
use Rattle.std.specs.Prelude.{All, Contains, IfSome}
use Rattle.std.proofs.lemmas.List.{get_or_default}
use Rattle.location_terms.specs.declared.status.SiteStatus.{SiteStatus}
use Rattle.location_terms.specs.declared.form.LeafForm.{LeafForm}
use Rattle.location_terms.specs.declared.form.LeafForm.TheVariants.{Prices, Whole}
use Rattle.location_terms.specs.Instance.{Instance, Site, Lanes, site_at}
use Rattle.location_terms.specs.Plan.{Plan, IsFeasible, load_of, KeepsStatus}
use Rattle.location_terms.specs.Bound.{Duals}
use Rattle.location_terms.specs.Leaf.{KnapsacksSuit, LeafFits}
use Rattle.location_terms.specs.Tree.{Tree, StandsOn}
use Rattle.range_scan.proofs.Alike.{with_costs, DifferInCosts, no_site}

module _ (I : Instance) (sites : List Site) (lanes : Lanes) (h : DifferInCosts I sites lanes) where
  abbrev J : Instance
  J = with_costs I sites lanes

  -- what holds of each site by its id, its capacity and its status
  kept_by_site : (Q : ℕ → Option ℕ → SiteStatus → Type 0) → All (λ y. Q y.id y.cap y.status) I.sites → All (λ y. Q y.id y.cap y.status) sites
  kept_by_site Q all k d b =
      let inside : k < length I.sites = omega (arith, b, h.count) in
      let was : Q (site_at I k).id (site_at I k).cap (site_at I k).status = all k no_site inside in
      let here : site_at J k ≡ get_or sites k d = get_or_default sites k no_site d b in
      let same : Q (site_at J k).id (site_at J k).cap (site_at J k).status =
      subst (λ n. Q n (site_at J k).cap (site_at J k).status) (sym (h.ids k inside))
      (subst (λ o. Q (site_at I k).id o (site_at J k).status) (sym (h.caps k inside))
      (subst (λ t. Q (site_at I k).id (site_at I k).cap t) (sym (h.statuses k inside)) was)) in
      subst (λ (y : Site). Q y.id y.cap y.status) here same

  pub feasible_kept : (P : Plan) → IsFeasible I P → IsFeasible J P
  feasible_kept P f = record {
    plan = f.plan;
    sites_known = subst (λ ids. All (Contains ids) P.sites) (sym h.names) f.sites_known;
    each_once = f.each_once;
    by_open = f.by_open;
    by_lane = λ k d b. h.has _ _ ∙ f.by_lane k d b;
    within_cap = kept_by_site (λ id cap _. Contains P.sites id → IfSome cap (λ most. load_of I P id ≤ most)) f.within_cap;
    at_least = f.at_least;
    at_most = f.at_most;
    statuses = kept_by_site (λ id _ status. KeepsStatus P id status) f.statuses;
  }

  pub stands_kept : (t : Tree) → StandsOn t I → StandsOn t J
  stands_kept t s = record { sites = s.sites ∙ sym h.names; customers = s.customers }

  knapsacks_kept : (form : LeafForm) → KnapsacksSuit form I → KnapsacksSuit form J
  knapsacks_kept Prices suit = tt
  knapsacks_kept Whole suit = h.small ∙ suit

  pub fits_kept : (d : Duals) → LeafFits I d → LeafFits J d
  fits_kept d f = record {
    numbers = record {
      in_limits = f.numbers.in_limits;
      of_instance = record {
        customers = f.numbers.of_instance.customers;
        sites = f.numbers.of_instance.sites ∙ sym h.count;
        unpriced = λ i b none. let inside : i < length I.sites = omega (arith, b, h.count) in f.numbers.of_instance.unpriced i inside (sym (h.caps i inside) ∙ none);
      };
    };
    prices = f.prices;
    knapsacks = knapsacks_kept d.form f.knapsacks;
  }
